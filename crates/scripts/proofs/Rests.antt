-- The rest of some bytes.
use Rattle.std.proofs.Common.{◌≡◌, ◌∙◌, suc, ◌==◌, Bool, true, ℕ, List, [], ◌∷◌, length, refl, sym, eqb-true, arith}

-- a rest that the test for an empty one takes has no byte
pub none-left : (rest : List ℕ) (empty : Bool) → empty ≡ (length rest == 0) → empty ≡ true → rest ≡ []
none-left [] empty e f = refl
none-left (b ∷ bs) empty e f = let nothing : suc (length bs) ≡ 0 = eqb-true (suc (length bs)) 0 (sym e ∙ f) in absurd (omega arith)
