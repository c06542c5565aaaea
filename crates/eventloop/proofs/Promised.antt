-- What threads that are joined give back.
use Rattle.std.proofs.Common.{◌≡◌, List, [], ◌∷◌, ◌++◌, Option, None, Some, IfSome, IsSome, MatchOption, refl, subst, sym}

-- where one came behind those that were there before, what holds of those holds of all, if it holds of that one too
pub one-more : {V W : Type 0} (items : V → List W) (w : W) (Q R : List W → Type 0) → ((xs : List W) → Q xs → R (xs ++ w ∷ [])) → (before after : Option V)
    → IfSome after (λ new. IfSome before (λ old. items new ≡ items old ++ w ∷ [])) → (IsSome after → IsSome before)
    → IfSome before (λ old. Q (items old)) → IfSome after (λ new. R (items new))
one-more items w Q R step before None more some is = tt
one-more items w Q R step None (Some new) more some is = let none = some refl in cc
one-more items w Q R step (Some old) (Some new) more some is = subst R (sym more) (step (items old) is)

-- what holds of one that is there, where more holds of it
pub each-so : {V : Type 0} (P Q : V → Type 0) → ((v : V) → P v → Q v) → (found : Option V) → IfSome found P → IfSome found Q
each-so P Q step None is = tt
each-so P Q step (Some v) is = step v is

-- what holds where none was found
pub none-found : {X : Type 0} (o : Option X) (P : Type 0) (Q : X → Type 0) → ((x : X) → o ≡ Some x → ⊥) → MatchOption o P Q → P
none-found None P Q other is = is
none-found (Some x) P Q other is = absurd (other x refl)
