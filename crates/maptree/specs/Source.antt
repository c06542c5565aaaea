-- What a source says (docs/MAPFILE.md, "Blocks and words").
use Rattle.std.specs.Prelude.{Result, Ok}
use Rattle.maplex.specs.Lexed.{Lexed}
use Rattle.mapwords.specs.declared.fault.Fault.{Fault}
use Rattle.maptree.specs.declared.tree.MapTree.{MapTree}
use Rattle.mapdefs.specs.Outcome.{and_then}
use Rattle.maptree.specs.Meaning.{meaning}
use Rattle.maptree.specs.Tree.{map_tree}

-- what the tokens of a source come to
abbrev pub tree_of : Lexed → Result MapTree Fault
tree_of source = and_then (meaning source.tokens source.tail) (λ own. Ok (map_tree own))
