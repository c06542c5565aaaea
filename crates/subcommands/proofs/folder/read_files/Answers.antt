use Rattle.std.proofs.Common.{◌≡◌, [], ◌∷◌, ◌++◌, append_assoc, ◌∙◌}
use Rattle.std.specs.Vec.Iter.{into_iter_items}
use Rattle.subcommands.specs.Folder.{none}
use Rattle.subcommands.proofs.folder.read_files.Goals as goal

pub loop-name-init : goal.loop-name-init
loop-name-init g c =
    let items : into_iter_items c.into_iter-name-iterator.result ≡ c.into_vec-name-items.result.items = c.into_iter-name-iterator.ensures.into_iter_gives.0 in
    ([], rw c.new-files.ensures none, items ∙ c.into_vec-name-items.ensures)

pub loop-name-preserved : goal.loop-name-preserved
loop-name-preserved g c =
    let (names, are, all) = c.loop-name.invariant in
    let (left, fewer) = c.in-Some.ensures.steps in
    (names ++ c.in-Some.name ∷ [], c.in_ok-add_file.ensures names are, append_assoc names (c.in-Some.name ∷ []) _ ∙ (rw left at all))
