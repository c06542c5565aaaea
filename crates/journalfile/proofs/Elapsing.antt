-- The course of a run of calls of a log.
use Rattle.std.proofs.Common.{inl, inr, ⊎_elim, ℕ, List, arith}
use Rattle.keepers.specs.Crashes.{LeavesOnly}
use Rattle.keepers.proofs.Moments.{started}
use Rattle.journalfile.specs.Log.{Elapses}

module _ {L : Type 0} (moment : L → ℕ) (left_since : L → ℕ → List ℕ → Type 0) where
  -- one more call, after which a crash leaves bytes that have P
  pub goes_on : (old mid new : L) (P outcomes : List ℕ → Type 0) → LeavesOnly moment left_since old mid P → Elapses (moment mid) (moment new) (left_since mid) (left_since new) outcomes
      → ((c : List ℕ) → outcomes c → P c) → LeavesOnly moment left_since old new P
  goes_on old mid new P outcomes so_far time here = record {
    later = omega (arith, so_far.later, time.later);
    each = λ c left. ⊎_elim (so_far.each c) (here c) (time.nothing_else (moment old) c so_far.later left);
    before = λ t c le left. ⊎_elim (so_far.before t c le) (λ now. inr (here c now)) (time.nothing_else t c (omega (arith, le, so_far.later)) left);
  }

  -- the first call of a run
  pub begins : (old new : L) (P outcomes : List ℕ → Type 0) → ((c : List ℕ) → left_since old (moment old) c → P c) → Elapses (moment old) (moment new) (left_since old) (left_since new) outcomes
      → ((c : List ℕ) → outcomes c → P c) → LeavesOnly moment left_since old new P
  begins old new P outcomes first time here = goes_on old old new P outcomes (started moment left_since old P first) time here
