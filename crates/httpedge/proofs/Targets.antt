-- The path and the query of a target.
use Rattle.std.proofs.Common.{◌≡◌, ◌∙◌, ℕ, ◌+◌, inl, inr, List, Bool, if◌then◌else◌, length, take, drop, min, refl, sym, arith}
use Rattle.std.specs.List.{before_first, after_first, position_or_len}
use Rattle.std.proofs.lemmas.Bool.Decides.{leb_tells}
use Rattle.std.proofs.Math.ListN.{drop_of_length-le}
use Rattle.httpedge.specs.Meaning.{Refused, Asks, is_question_mark, is_served, target_meaning}
use Rattle.httpedge.specs.declared.refusal.Refusal.TheVariants.{NotFound}

-- the query of a target, where the byte before it is one of the target or not
pub query-after : (target : List ℕ) (n count : ℕ) → n ≡ position_or_len is_question_mark target → count ≡ min (n + 1) (length target) → drop count target ≡ after_first is_question_mark target
query-after target n count is e =
    rw (← is) (elim (leb_tells (n + 1) (length target)) [
      | inl inside ↦ let at : count ≡ n + 1 = omega (arith, e, inside.1) in rw at refl
      | inr past ↦
          let at : count ≡ length target = omega (arith, e, past.1) in
          drop_of_length-le target (omega (arith, at)) ∙ sym (drop_of_length-le target (omega (arith, past.1)))
    ])

-- what a target means, by its path
pub target-served : (target path : List ℕ) (n : ℕ) (served : Bool) → n ≡ position_or_len is_question_mark target → path ≡ take n target → served ≡ is_served path →
    target_meaning target ≡ (if served then Asks (after_first is_question_mark target) else Refused NotFound)
unfolding target_meaning
target-served target path n served count prefix e =
    let same : is_served (before_first is_question_mark target) ≡ served = rw (e, prefix, count) refl in
    rw same refl
