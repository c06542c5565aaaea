-- Elements of a list.
use Rattle.std.proofs.Common.{◌≡◌, List, [], ◌∷◌, get_or, arith, ⊎_elim, ◌⊎◌, inl, inr}
use Rattle.std.proofs.lemmas.List.Elements.{Contains-append_cases}
use Rattle.std.specs.List.{Any, Contains}

-- the first element, or one of the others
pub first_or : {X : Type 0} (x y : X) (xs : List X) → Contains (x ∷ xs) y → (x ≡ y) ⊎ Contains xs y
first_or {X} x y xs c = ⊎_elim
    (λ (d : Contains (x ∷ []) y).
    let z : d.0 ≡ 0 = omega (arith, d.1) in
    let f : get_or (x ∷ []) 0 y ≡ y = rw z at d.2 in
    inl f)
    (λ (d : Contains xs y). inr d)
    (Contains-append_cases (x ∷ []) xs y c)

-- what passes one test passes a weaker one
pub any-weaker : {X : Type 0} (P Q : X → Type 0) (xs : List X) → ((x : X) → P x → Q x) → Any P xs → Any Q xs
any-weaker P Q xs f (k, x, h, e, p) = (k, x, h, e, f x p)
