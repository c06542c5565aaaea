-- The outline of a run of ink, row by row.
use Rattle.std.proofs.Common.{◌≡◌, ◌∙◌, ℕ, ◌+◌, ◌*◌, ◌<◌, ◌≤◌, min, true, false, ◌&&◌, Option, None, Some, refl, sym, ap, inl, inr, ◌⊎◌, ⊎_elim, arith}
use Rattle.std.specs.List.{list_any}
use Rattle.std.specs.Prelude.{int_le, int_lt, nat_le, nat_lt, unsigned_abs}
use Rattle.std.proofs.lemmas.Bool.{and_from, and_parts, cases_Bool, cases_lt, leb-true, le-leb, lt-ltb, ltb-true}
use Rattle.std.specs.Option.{MatchOption}
use Rattle.std.proofs.lemmas.Int.{ints}
use Rattle.std.proofs.lemmas.Nat.{mul-le}
use lib.IntN.{ℤ, pos, negsuc, ◌+ℤ◌, ◌-ℤ◌}
use lib.Signed.{◌<ℤ◌, ◌≤ℤ◌}
use Rattle.geom.proofs.Products.{le_of, same_test}
use Rattle.clip.specs.EdgeClass.{at_least_zero}
use Rattle.clip.proofs.Rowed.{cut-at_most}
use Rattle.scanfill.specs.declared.span.Span.{Span}
use Rattle.scanfill.specs.Runs.{has_column}
use Rattle.labelink.specs.Disc.{IsHalfChord, RunValue, disc, has_pixel, outlines_run, square}
use Rattle.geom.specs.Device.{PixelValue}
use Rattle.labelink.proofs.Discs.{disc-none, disc-some, down-within, implied, refuted}

-- a step of at most h columns from a column into a run
pub record Near (from past i : ℤ) (h : ℕ) : Type 0 where
  pub step : ℤ
  pub small : unsigned_abs step ≤ h
  pub first : from ≤ℤ (i +ℤ step)
  pub last : (i +ℤ step) <ℤ past

nearest : (from past i : ℤ) (h : ℕ) → from <ℤ past → (from -ℤ pos h) ≤ℤ i → i <ℤ (past +ℤ pos h) → Near from past i h
nearest from past i h some first last = elim (cases_Bool (int_lt i from)) [
  | inl left ↦ record { step = from -ℤ i; small = omega (arith, ints, sym left, first); first = omega (arith, ints); last = omega (arith, ints, some) }
  | inr right ↦ inside (cases_Bool (int_lt i past)) (sym right)
]
  where
    inside : (int_lt i past ≡ true) ⊎ (int_lt i past ≡ false) → false ≡ int_lt i from → Near from past i h
    inside (inl on) right = record { step = pos 0; small = omega (arith, ints); first = omega (arith, ints, right); last = omega (arith, ints, sym on) }
    inside (inr after) right = record { step = (past -ℤ pos 1) -ℤ i; small = omega (arith, ints, sym after, last); first = omega (arith, ints, some); last = omega (arith, ints) }

is-le : (a b : ℤ) → a ≤ℤ b → int_le a b ≡ true
is-le a b h = sym (omega (arith, ints, h))

is-lt : (a b : ℤ) → a <ℤ b → int_lt a b ≡ true
is-lt a b h = sym (omega (arith, ints, h))

lt-of : (a b : ℤ) → int_lt a b ≡ true → a <ℤ b
lt-of a b e = omega (arith, ints, e)

-- what it says that a run has a pixel
pub record Had (run : RunValue) (i j : ℤ) : Type 0 where
  pub row : j ≡ run.row
  pub first : run.from ≤ℤ i
  pub last : i <ℤ run.past

had : (run : RunValue) (i j : ℤ) → has_pixel run i j ≡ true → Had run i j
had run i j is =
    let both = and_parts (int_le run.row j && int_le j run.row) (int_le run.from i && int_lt i run.past) is in
    let rows = and_parts (int_le run.row j) (int_le j run.row) both.0 in
    let columns = and_parts (int_le run.from i) (int_lt i run.past) both.1 in
    let low = le_of run.row j rows.0 in
    let high = le_of j run.row rows.1 in
    record { row = omega (arith, ints, low, high); first = le_of run.from i columns.0; last = lt-of i run.past columns.1 }

has : (run : RunValue) (i j : ℤ) → j ≡ run.row → run.from ≤ℤ i → i <ℤ run.past → has_pixel run i j ≡ true
has run i j same first last =
    let low : run.row ≤ℤ j = omega (arith, ints, same) in
    let high : j ≤ℤ run.row = omega (arith, ints, same) in
    rw (is-le run.row j low, is-le j run.row high, is-le run.from i first, is-lt i run.past last) refl

-- a step that is no longer than a disc reaches leads no further across than half the chord of its row
at-most-half : (a b d r h : ℕ) → b ≡ d → (a * a + b * b) ≤ (r * r) → (r * r) < ((h + 1) * (h + 1) + d * d) → a ≤ h
at-most-half a b d r h same within beyond =
    let short : (a * a + d * d) ≤ (r * r) = rw same at within in
    ⊎_elim
    (λ (lt : h < a). let more : ((h + 1) * (h + 1)) ≤ (a * a) = mul-le (h + 1) (h + 1) a a (omega (arith, lt)) (omega (arith, lt)) in absurd (omega (arith, short, beyond, more)))
    (λ (ge : a ≤ h). ge)
    (cases_lt h a)

half-within : (a d r h : ℕ) → a ≤ h → (h * h + d * d) ≤ (r * r) → nat_le (a * a + d * d) (r * r) ≡ true
half-within a d r h short inside =
    let less : (a * a) ≤ (h * h) = mul-le a a h h short short in
    le-leb (a * a + d * d) (r * r) (omega (arith, less, inside))

-- in a row the outline of a run has the columns of the run, and half a chord more on each side
pub run-chord : (run : RunValue) (i j : ℤ) (h : ℕ) → run.from <ℤ run.past → IsHalfChord run.reach (unsigned_abs (run.row -ℤ j)) h →
    outlines_run run i j ≡ (int_le (run.from -ℤ pos h) i && int_lt i (run.past +ℤ pos h))
unfolding outlines_run
run-chord run i j h some chord =
    let at = λ (step : PixelValue). has_pixel run (i +ℤ step.i) (j +ℤ step.j) in
    let beside = int_le (run.from -ℤ pos h) i && int_lt i (run.past +ℤ pos h) in
    same_test (list_any at (disc run.reach)) beside
    (λ is. implied (list_any at (disc run.reach)) beside
    (λ missed. disc-none at run.reach
    (λ across down within. refuted (has_pixel run (i +ℤ across) (j +ℤ down)) beside
    (λ hit.
    let there = had run (i +ℤ across) (j +ℤ down) hit in
    let level : unsigned_abs down ≡ unsigned_abs (run.row -ℤ j) = ap unsigned_abs (down-is down there.row) in
    let short = at-most-half (unsigned_abs across) (unsigned_abs down) (unsigned_abs (run.row -ℤ j)) run.reach h level (leb-true (square across + square down) (run.reach * run.reach) within) chord.beyond in
    and_from (int_le (run.from -ℤ pos h) i) (int_lt i (run.past +ℤ pos h))
    (is-le (run.from -ℤ pos h) i (first-in across there.first short))
    (is-lt i (run.past +ℤ pos h) (last-in across there.last short)))
    missed))
    is)
    (λ in'.
    let both = and_parts (int_le (run.from -ℤ pos h) i) (int_lt i (run.past +ℤ pos h)) in' in
    let near = nearest run.from run.past i h some (le_of (run.from -ℤ pos h) i both.0) (lt-of i (run.past +ℤ pos h) both.1) in
    disc-some at run.reach near.step (run.row -ℤ j)
    (half-within (unsigned_abs near.step) (unsigned_abs (run.row -ℤ j)) run.reach h near.small chord.inside)
    (has run (i +ℤ near.step) (j +ℤ (run.row -ℤ j)) (omega (arith, ints)) near.first near.last))
  where
    down-is : (down : ℤ) → (j +ℤ down) ≡ run.row → down ≡ run.row -ℤ j
    down-is down e = omega (arith, ints, e)

    first-in : (across : ℤ) → run.from ≤ℤ (i +ℤ across) → unsigned_abs across ≤ h → (run.from -ℤ pos h) ≤ℤ i
    first-in across e short = omega (arith, ints, e, short)

    last-in : (across : ℤ) → (i +ℤ across) <ℤ run.past → unsigned_abs across ≤ h → i <ℤ (run.past +ℤ pos h)
    last-in across e short = omega (arith, ints, e, short)

-- it has no pixel in a row that is further away than the disc reaches
pub run-beyond : (run : RunValue) (i j : ℤ) → run.reach < unsigned_abs (run.row -ℤ j) → outlines_run run i j ≡ false
unfolding outlines_run
run-beyond run i j far = disc-none (λ step. has_pixel run (i +ℤ step.i) (j +ℤ step.j)) run.reach
    (λ across down within. refuted (has_pixel run (i +ℤ across) (j +ℤ down)) false
    (λ hit.
    let there = had run (i +ℤ across) (j +ℤ down) hit in
    let short = down-within run.reach across down within in
    let row = there.row in
    absurd (omega (arith, ints, row, short, far)))
    refl)

-- nor has one of no columns
pub run-empty : (run : RunValue) (i j : ℤ) → run.past ≤ℤ run.from → outlines_run run i j ≡ false
unfolding outlines_run
run-empty run i j none = disc-none (λ step. has_pixel run (i +ℤ step.i) (j +ℤ step.j)) run.reach
    (λ across down within. refuted (has_pixel run (i +ℤ across) (j +ℤ down)) false
    (λ hit.
    let there = had run (i +ℤ across) (j +ℤ down) hit in
    let first = there.first in
    let last = there.last in
    absurd (omega (arith, ints, first, last, none)))
    refl)

cut-lt : (z : ℤ) (end i : ℕ) → i < min (at_least_zero z) end → pos i <ℤ z
cut-lt (pos m) end i h = omega (arith, ints)
cut-lt (negsuc m) end i h = absurd (omega arith)

lt-cut : (z : ℤ) (end i : ℕ) → i < end → pos i <ℤ z → i < min (at_least_zero z) end
lt-cut (pos m) end i h e = omega (arith, ints)
lt-cut (negsuc m) end i h e = absurd (omega (arith, ints))

-- the columns of a span that is cut to a picture
pub cut-column : (s : Span) (a b : ℤ) (end i : ℕ) → s.from ≡ min (at_least_zero a) end → s.to ≡ min (at_least_zero b) end → i < end →
    has_column s i ≡ (int_le a (pos i) && int_lt (pos i) b)
cut-column s a b end i first past h = rw (
  ap (λ n. nat_le n i) first ∙ cut-at_most a end i h,
  same_test (nat_lt i s.to) (int_lt (pos i) b)
      (λ e. is-lt (pos i) b (cut-lt b end i (rw past at (ltb-true i s.to e))))
      (λ e. lt-ltb i s.to (rw past (lt-cut b end i h (lt-of (pos i) b e)))),
) refl

-- what holds of a value that may be there, or of none
pub matched : {X : Type 0} (o : Option X) (P Q : Type 0) (R S : X → Type 0) → (P → Q) → ((x : X) → R x → S x) → MatchOption o P R → MatchOption o Q S
matched None P Q R S f g h = f h
matched (Some x) P Q R S f g h = g x h

-- a row before or past those that the disc reaches is further away than it reaches
pub off-rows : (run : RunValue) (j : ℤ) → (int_le (run.row -ℤ pos run.reach) j && int_lt j ((run.row +ℤ pos run.reach) +ℤ pos 1)) ≡ false → run.reach < unsigned_abs (run.row -ℤ j)
off-rows run j out = elim (cases_Bool (int_le (run.row -ℤ pos run.reach) j)) [
  | inl from ↦ (let past : int_lt j ((run.row +ℤ pos run.reach) +ℤ pos 1) ≡ false = rw from at out in
      omega (arith, ints, sym past))
  | inr before ↦ omega (arith, ints, sym before)
]
