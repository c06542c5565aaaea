-- Batches that are checked one after the other.
use Rattle.std.proofs.Common.{◌≡◌, ◌<◌, ℕ, zero, suc, ◌+◌, List, [], ◌∷◌, ◌++◌, Some, Ok, length, get_or, take, drop, sym, ◌∙◌, ap, arith}
use Rattle.std.proofs.lemmas.List.{drop_more, take_more}
use Rattle.std.specs.Prelude.{Vec, option_and_then}
use Rattle.std.specs.Result.{result_ok}
use Rattle.std.specs.declared.alloc.Global.{Global}
use Rattle.batches.specs.Batch.{IsBatchErrorOf, State, batched, accepted}
use Rattle.batches.specs.declared.fault.BatchError.{BatchError}
use Rattle.batches.specs.declared.fault.BatchError.TheVariants as batch_error
use Rattle.journal.specs.Texts.{texts_of}
use Rattle.journal.proofs.Growing.{length-texts}
use Rattle.sharing.specs.Sharing.{after}
use Rattle.mapshare.specs.Checking.{HasChecked}
use Rattle.mapshare.proofs.Accepting.{after_more}

text_at : (batches : List (Vec ℕ Global)) (at : ℕ) (batch : Vec ℕ Global) (d : List ℕ) → at < length batches → batch ≡ get_or batches at batch → get_or (texts_of batches) at d ≡ batch.items
text_at [] at batch d within is = absurd (omega (arith, within))
text_at (b ∷ batches) zero batch d within is = ap (λ (text : Vec ℕ Global). text.items) (sym is)
text_at (b ∷ batches) (suc at) batch d within is = text_at batches at batch d (omega (arith, within)) is

module _ (first last : State) (batches : List (Vec ℕ Global)) (at : ℕ) (batch : Vec ℕ Global) (within : at < length batches) (is : batch ≡ get_or batches at batch)
    (leads : after accepted first (take at (texts_of batches)) ≡ Some last) where
  within_texts : at < length (texts_of batches)
  within_texts = omega (arith, length-texts batches, within)

  -- one more is accepted
  pub checks_one : (next : State) → batched batch.items last ≡ Ok next → after accepted first (take (at + 1) (texts_of batches)) ≡ Some next
  checks_one next done =
      ap (after accepted first) (take_more (texts_of batches) at [] within_texts ∙ ap (λ (b : List ℕ). take at (texts_of batches) ++ b ∷ []) (text_at batches at batch [] within is))
      ∙ (after_more first last (take at (texts_of batches)) (batch.items ∷ []) leads ∙ ap (λ r. option_and_then (λ u. Some u) (result_ok r)) done)

  -- or is the first that isn't
  pub stops_there : (error : BatchError) → IsBatchErrorOf (batched batch.items last) error → HasChecked first (texts_of batches) (record { count = at; refused = Some error }) last
  stops_there (batch_error.Fault fault) refused = record {
    within = omega (arith, within_texts);
    leads = leads;
    stop = (batch.items, drop (at + 1) (texts_of batches), drop_more (texts_of batches) at [] within_texts ∙ ap (λ (b : List ℕ). b ∷ drop (at + 1) (texts_of batches)) (text_at batches at batch [] within is), refused);
  }
  stops_there batch_error.NoMemory refused = record { within = omega (arith, within_texts); leads = leads; stop = within_texts }
