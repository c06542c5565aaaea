-- Lists of batches that are accepted.
use Rattle.std.proofs.Common.{◌≡◌, List, [], ◌∷◌, ◌++◌, Option, None, Some, IsSome, refl}
use Rattle.std.specs.Prelude.{option_and_then}
use Rattle.sharing.specs.Sharing.{after}

then_some : {S T : Type 0} (f g : S → Option T) (o : Option S) → ((t : S) → IsSome (f t) → IsSome (g t)) → IsSome (option_and_then f o) → IsSome (option_and_then g o)
then_some f g None k h = absurd (cc h)
then_some f g (Some t) k h = k t h

then_same : {S T : Type 0} (f : S → Option T) (g : T → Option T) (h : S → Option T) (o : Option S) → ((s : S) → f s ≡ option_and_then g (h s)) → option_and_then f o ≡ option_and_then g (option_and_then h o)
then_same f g h None k = refl
then_same f g h (Some s) k = k s

module _ {S B : Type 0} (batch : S → B → Option S) where
  -- a prefix of an accepted list is accepted
  pub front_accepted : (s : S) (a b : List B) → IsSome (after batch s (a ++ b)) → IsSome (after batch s a)
  front_accepted s [] b h = refl
  front_accepted s (x ∷ a) b h = then_some (λ t. after batch t (a ++ b)) (λ t. after batch t a) (batch s x) (λ t k. front_accepted t a b k) h

  -- the state after two lists is the state after the second in the state after the first
  pub after_append : (s : S) (a b : List B) → after batch s (a ++ b) ≡ option_and_then (λ t. after batch t b) (after batch s a)
  after_append s [] b = refl
  after_append s (x ∷ a) b = then_same (λ t. after batch t (a ++ b)) (λ t. after batch t b) (λ t. after batch t a) (batch s x) (λ t. after_append t a b)
