use Rattle.std.proofs.Common.{rules, subst, ◌≡◌}
use Rattle.std.specs.Prelude.{List, not, filter}
use Rattle.std.proofs.lemmas.Fn.{filter_same}
use Rattle.maptree.specs.declared.tree.UsedFile.{UsedFile}
use Rattle.maptree.specs.Data.{is_file_of}
use Rattle.maptree.proofs.files.without_font.Goals as goal

pub returns : goal.returns
returns c =
    subst (λ (old : List UsedFile). c.retain.new.self.items ≡ filter (λ used. not (is_file_of c.args.key.now used)) old) c.into_vec-left.ensures
    (filter_same _ (λ used. not (is_file_of c.args.key.now used)) _ (λ x b q. search rules) _ _ c.retain.ensures.filtered)
