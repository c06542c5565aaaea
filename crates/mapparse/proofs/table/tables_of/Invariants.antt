use Rattle.std.proofs.Common.{◌≡◌, ◌++◌, drop, take}
use Rattle.std.specs.Prelude.{Ok}
use Rattle.mapdefs.specs.Outcome.{and_then}
use Rattle.mapparse.specs.Tables.{tables_of, HaveRoom}
use Rattle.mapparse.proofs.table.tables_of.Given as goal

-- the tables so far and those of the layers that are left are all, and there is room for them
abbrev pub invariant-loop-layer : goal.invariant-loop-layer
invariant-loop-layer l = record {
  all : and_then (tables_of l.files (drop l.layer-index l.layers)) (λ more. Ok (l.tables ++ more)) ≡ tables_of l.files l.layers;
  room : HaveRoom (take l.layer-index l.layers) l.tables;
}
