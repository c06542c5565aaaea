-- Fewer batches that lead to the same state: none fewer, more behind them, and fewer once more.
use Rattle.std.proofs.Common.{◌≡◌, ◌∙◌, ◌+◌, ℕ, List, ◌++◌, Option, None, Some, refl, sym, ap, arith, length-append}
use Rattle.std.specs.Option.{option_and_then}
use Rattle.sharing.specs.Sharing.{after}
use Rattle.sharing.specs.Shortened.{IsShortOf}
use Rattle.sharing.proofs.Accepting.{after_append}

module _ {S B : Type 0} (accepted : S → B → Option S) where
  module _ (skipping : ℕ → S → S) where
    -- none fewer
    pub short_self : (batches : List B) → ((s : S) → skipping 0 s ≡ s) → IsShortOf accepted skipping 0 batches batches
    short_self batches none = record {
      counted = omega arith;
      same = λ first last is. ap (λ (s : S). after accepted s batches) (none first) ∙ is;
    }

    -- the same batches follow both
    pub short_more : (skipped : ℕ) (own batches more : List B) → IsShortOf accepted skipping skipped own batches → IsShortOf accepted skipping skipped (own ++ more) (batches ++ more)
    short_more skipped own batches more short = record {
      counted = omega (arith, short.counted, length-append own more, length-append batches more);
      same = λ first last is. go first last (after accepted first batches) refl (sym (after_append accepted first batches more) ∙ is);
    }
      where
        go : (first last : S) (o : Option S) → after accepted first batches ≡ o → option_and_then (λ t. after accepted t more) o ≡ Some last
            → after accepted (skipping skipped first) (own ++ more) ≡ Some last
        go first last None e is = absurd (cc)
        go first last (Some mid) e is =
            after_append accepted (skipping skipped first) own more
            ∙ (ap (λ (o : Option S). option_and_then (λ t. after accepted t more) o) (short.same first mid e) ∙ is)

    -- fewer once more
    pub short_again : (a b : ℕ) (less own batches : List B) → ((s : S) → skipping (a + b) s ≡ skipping b (skipping a s))
        → IsShortOf accepted skipping a own batches → IsShortOf accepted skipping b less own → IsShortOf accepted skipping (a + b) less batches
    short_again a b less own batches both first_short second_short = record {
      counted = omega (arith, first_short.counted, second_short.counted);
      same = λ first last is.
          ap (λ (s : S). after accepted s less) (both first) ∙ second_short.same (skipping a first) last (first_short.same first last is);
    }
