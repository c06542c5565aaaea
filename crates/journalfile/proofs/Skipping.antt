-- Batches that were left out, as empty ones, which count and change nothing.
use Rattle.std.proofs.Common.{◌≡◌, ℕ, zero, suc, ◌+◌, ◌==◌, ◌-◌, ◌^◌, Bool, true, false, List, [], ◌∷◌, ◌++◌, length, if◌then◌else◌, Option, None, Some, Ok, Err, refl, sym, ◌∙◌, ap, arith, length-append}
use Rattle.std.specs.Prelude.{option_and_then}
use Rattle.std.specs.Result.{result_ok}
use Rattle.batches.specs.Batch.{State, accepted}
use Rattle.compaction.specs.Compacted.{skipping}
use Rattle.compaction.proofs.Counting.{skipping-none, skipping-more}
use Rattle.batches.specs.Command.{reading_within}
use Rattle.batches.specs.declared.fault.BatchFault.{BatchFault}
use Rattle.batches.specs.declared.fault.BatchKind.TheVariants as kind
use Rattle.sharing.specs.Sharing.{after}
use Rattle.sharing.specs.Shortened.{IsShortOf}

-- so many empty batches
abbrev pub empties : ℕ → List (List ℕ)
empties zero = []
empties (suc n) = [] ∷ empties n

length-empties : (n : ℕ) → length (empties n) ≡ n
length-empties zero = refl
length-empties (suc n) = ap suc (length-empties n)

-- an accepted one counts, and changes nothing
one_counts : (s t : State) → accepted s [] ≡ Some t → t ≡ skipping 1 s
unfolding reading_within
one_counts s t is = by (s.sequence == 2 ^ 64 - 1) (record { index = 0; kind = kind.SequenceEnd }) is
  where
    by : (b : Bool) (fault : BatchFault) → result_ok (if b then Err fault else Ok (record { map = s.map; sequence = s.sequence + 1 })) ≡ Some t → t ≡ skipping 1 s
    by true fault e = absurd (cc e)
    by false fault e = sym (cc e)

all_count : (n : ℕ) (own : List (List ℕ)) (first last : State) → after accepted first (empties n ++ own) ≡ Some last → after accepted (skipping n first) own ≡ Some last
all_count zero own first last is = ap (λ (s : State). after accepted s own) (skipping-none first) ∙ is
all_count (suc n) own first last is = go (λ s. all_count n own s last) (accepted first []) refl is
  where
    go : ((s : State) → after accepted s (empties n ++ own) ≡ Some last → after accepted (skipping n s) own ≡ Some last) → (o : Option State) → accepted first [] ≡ o → option_and_then (λ s. after accepted s (empties n ++ own)) o ≡ Some last → after accepted (skipping (suc n) first) own ≡ Some last
    go others None e found = absurd (cc found)
    go others (Some s) e found =
        let same : suc n ≡ 1 + n = omega arith in
        ap (λ (k : ℕ). after accepted (skipping k first) own) same ∙ ap (λ (t : State). after accepted t own) (skipping-more 1 n first)
        ∙ ap (λ (t : State). after accepted (skipping n t) own) (sym (one_counts first s e)) ∙ others s found

-- the batches of a journal are short of as many empty ones as were left out of it, and them
pub empties_short : (skipped : ℕ) (own : List (List ℕ)) → IsShortOf accepted skipping skipped own (empties skipped ++ own)
empties_short skipped own = record {
  counted = omega (arith, length-append (empties skipped) own, length-empties skipped);
  same = all_count skipped own;
}
