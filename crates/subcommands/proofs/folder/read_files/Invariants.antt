use Rattle.std.proofs.Common.{◌≡◌, ℕ, List, ◌++◌}
use Rattle.std.specs.Vec.Iter.{into_iter_items}
use Rattle.subcommands.specs.Folder.{FilesOf}
use Rattle.subcommands.proofs.folder.read_files.Given as goal

-- the files are those of the names so far
abbrev pub invariant-loop-name : goal.invariant-loop-name
invariant-loop-name g l =
    (names : List (List ℕ)) × FilesOf (g.F.Folder.gives l.folder) names l.files × (names ++ into_iter_items l.name-iterator ≡ l.fn.names)
