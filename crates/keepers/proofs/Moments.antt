-- The course of a run of calls that write.
use Rattle.std.proofs.Common.{inl, inr, ⊎_elim, ℕ, List, arith}
use Rattle.std.specs.Prelude.{Some}
use Rattle.keepers.specs.Crashes.{LeavesOnly}
use Rattle.keepers.specs.Keeping.{left_since_of, moment_of}

module _ {L : Type 0} (moment : L → ℕ) (left_since : L → ℕ → List ℕ → Type 0) where
  -- before the first call
  pub started : (old : L) (P : List ℕ → Type 0) → ((c : List ℕ) → left_since old (moment old) c → P c) → LeavesOnly moment left_since old old P
  started old P here = record { later = omega arith; each = here; before = λ t c le left. inl left }

  -- one run after another
  pub follows : (old mid new : L) (P Q R : List ℕ → Type 0) → LeavesOnly moment left_since old mid P → LeavesOnly moment left_since mid new Q
      → ((c : List ℕ) → P c → R c) → ((c : List ℕ) → Q c → R c) → LeavesOnly moment left_since old new R
  follows old mid new P Q R first second p q = record {
    later = omega (arith, first.later, second.later);
    each = λ c left. ⊎_elim (λ l. p c (first.each c l)) (q c) (second.before (moment old) c first.later left);
    before = λ t c le left. ⊎_elim (λ l. ⊎_elim (λ l. inl l) (λ h. inr (p c h)) (first.before t c le l)) (λ h. inr (q c h)) (second.before t c (omega (arith, le, first.later)) left);
  }

  pub weaker : (old new : L) (P Q : List ℕ → Type 0) → LeavesOnly moment left_since old new P → ((c : List ℕ) → P c → Q c) → LeavesOnly moment left_since old new Q
  weaker old new P Q run p = record {
    later = run.later;
    each = λ c left. p c (run.each c left);
    before = λ t c le left. ⊎_elim (λ l. inl l) (λ h. inr (p c h)) (run.before t c le left);
  }

-- what is written is a part of what writes it
pub of_part : {K L : Type 0} (moment : L → ℕ) (left_since : L → ℕ → List ℕ → Type 0) (part : K → L) (old new : K) (P Q : List ℕ → Type 0)
    → LeavesOnly moment left_since (part old) (part new) P → ((c : List ℕ) → P c → Q c)
    → LeavesOnly (λ (k : K). moment (part k)) (λ (k : K). left_since (part k)) old new Q
of_part moment left_since part old new P Q run p = record {
  later = run.later;
  each = λ c left. p c (run.each c left);
  before = λ t c le left. ⊎_elim (λ l. inl l) (λ h. inr (p c h)) (run.before t c le left);
}

-- a keeper that is there
pub of_some : {K : Type 0} (moment : K → ℕ) (left_since : K → ℕ → List ℕ → Type 0) (old new : K) (P Q : List ℕ → Type 0) → LeavesOnly moment left_since old new P → ((c : List ℕ) → P c → Q c)
    → LeavesOnly (moment_of moment) (left_since_of left_since) (Some old) (Some new) Q
of_some moment left_since old new P Q run p = record {
  later = run.later;
  each = λ c left. p c (run.each c left);
  before = λ t c le left. ⊎_elim (λ l. inl l) (λ h. inr (p c h)) (run.before t c le left);
}
