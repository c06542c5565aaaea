-- States after batches.
use Rattle.std.proofs.Common.{◌≡◌, ℕ, List, [], ◌∷◌, ◌++◌, Option, None, Some, Ok, Err, refl, ◌∙◌, ap}
use Rattle.std.specs.Prelude.{option_and_then}
use Rattle.std.specs.Result.{result_ok}
use Rattle.batches.specs.Batch.{State, batched, accepted}
use Rattle.batches.specs.declared.fault.BatchFault.{BatchFault}
use Rattle.sharing.specs.Sharing.{after}
use Rattle.sharing.proofs.Accepting.{after_append}

same_option : {S : Type 0} (o : Option S) → option_and_then (λ t. Some t) o ≡ o
same_option None = refl
same_option (Some t) = refl

-- one more batch
after_push : (s : State) (bs : List (List ℕ)) (b : List ℕ) (t : State) → after accepted s bs ≡ Some t → after accepted s (bs ++ b ∷ []) ≡ accepted t b
after_push s bs b t is = after_append accepted s bs (b ∷ []) ∙ ap (option_and_then (λ u. after accepted u (b ∷ []))) is ∙ same_option (accepted t b)

-- one more that is accepted
pub after_accepted : (s t u : State) (bs : List (List ℕ)) (b : List ℕ) → after accepted s bs ≡ Some t → batched b t ≡ Ok u → after accepted s (bs ++ b ∷ []) ≡ Some u
after_accepted s t u bs b is done = after_push s bs b t is ∙ ap result_ok done

-- one more that is refused
pub after_refused : (s t : State) (bs : List (List ℕ)) (b : List ℕ) (fault : BatchFault) → after accepted s bs ≡ Some t → batched b t ≡ Err fault → after accepted s (bs ++ b ∷ []) ≡ None
after_refused s t bs b fault is refused = after_push s bs b t is ∙ ap result_ok refused
