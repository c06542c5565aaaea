use Rattle.std.proofs.Common.{◌≡◌, ◌++◌, length, drop}
use Rattle.std.specs.Prelude.{Ok}
use Rattle.mapdefs.specs.Outcome.{and_then}
use Rattle.mapparse.specs.Symbols.{symbols_of}
use Rattle.mapparse.proofs.symbol.symbols_of.Given as goal

-- the symbols so far and those of the trees that are left are all
abbrev pub invariant-loop-tree : goal.invariant-loop-tree
invariant-loop-tree l = record {
  all : and_then (symbols_of l.files (drop l.tree-index l.trees)) (λ more. Ok (l.symbols ++ more)) ≡ symbols_of l.files l.trees;
  count : length l.symbols ≡ l.tree-index;
}
