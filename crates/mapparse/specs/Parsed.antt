-- What a mapfile means (docs/MAPFILE.md).
use Rattle.std.specs.Prelude.{ℕ, List, Result, Ok}
use Rattle.maplex.specs.Lexed.{lexed}
use Rattle.mapdefs.specs.declared.map.MapFields.{MapFields}
use Rattle.mapwords.specs.declared.fault.Fault.{Fault}
use Rattle.mapdefs.specs.Outcome.{and_then}
use Rattle.maptree.specs.Source.{tree_of}
use Rattle.mapparse.specs.Mapping.{map_of}
use Rattle.mapparse.specs.Uses.{uses_of}
use Rattle.mapparse.specs.declared.files.FileBytes.{FileBytes}

-- the names of the files that a source uses, or the first fault in it
abbrev pub wanted : List ℕ → Result (List (List ℕ)) Fault
wanted source = and_then (tree_of (lexed source)) (λ tree. Ok (uses_of tree))

-- the map that a source describes with these files, or the first fault in it, those of its files after all others
abbrev pub parsed : List FileBytes → List ℕ → Result MapFields Fault
parsed files source = and_then (tree_of (lexed source)) (λ tree. map_of files tree)
