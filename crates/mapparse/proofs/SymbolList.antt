-- The symbols of a map are made one after the other, and the last one of a name is found.
use Rattle.std.proofs.Common.{◌≡◌, ℕ, suc, ◌+◌, ◌<◌, List, [], ◌∷◌, ◌++◌, length, get_or, drop, drop-cons, add-one, refl, ap}
use Rattle.std.specs.Prelude.{Result, Ok, Err}
use Rattle.std.proofs.lemmas.List.{append_assoc}
use Rattle.mapdefs.specs.declared.symbol.Symbol.{Symbol}
use Rattle.mapwords.specs.declared.fault.Fault.{Fault}
use Rattle.maptree.specs.declared.tree.SymbolTree.{SymbolTree}
use Rattle.mapdefs.specs.Outcome.{and_then}
use Rattle.mapparse.specs.declared.files.FileBytes.{FileBytes}
use Rattle.mapparse.specs.Symbols.{shape_in, symbols_of}

-- one more symbol is made
module _ (files : List FileBytes) (done : List Symbol) where
  joined : (symbol : Symbol) (r : Result (List Symbol) Fault) →
      and_then r (λ more. Ok ((done ++ symbol ∷ []) ++ more)) ≡ and_then (and_then r (λ others. Ok (symbol ∷ others))) (λ more. Ok (done ++ more))
  joined symbol (Ok others) = ap (λ x. Ok x) (append_assoc done (symbol ∷ []) others)
  joined symbol (Err f) = refl

  pub one-more : (trees : List SymbolTree) (i : ℕ) (tree : SymbolTree) (made : Symbol) → i < length trees → tree ≡ get_or trees i tree →
      (shape_in files tree ≡ Ok made.shape) × (made.name ≡ tree.name.text) →
      and_then (symbols_of files (drop (i + 1) trees)) (λ more. Ok ((done ++ made ∷ []) ++ more))
      ≡ and_then (symbols_of files (drop i trees)) (λ more. Ok (done ++ more))
  one-more trees i tree made below e is =
      rw (add-one, drop-cons trees i tree below, ← e, is.0, ← is.1) (joined made (symbols_of files (drop (suc i) trees)))

  -- none is made of a tree with a fault
  pub one-fault : (trees : List SymbolTree) (i : ℕ) (tree : SymbolTree) (f : Fault) → i < length trees → tree ≡ get_or trees i tree →
      shape_in files tree ≡ Err f → and_then (symbols_of files (drop i trees)) (λ more. Ok (done ++ more)) ≡ Err f
  one-fault trees i tree f below e is = rw (drop-cons trees i tree below, ← e, is) refl
