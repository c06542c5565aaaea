-- The rows that an edge crosses.
use Rattle.std.proofs.Common.{◌≡◌, ◌∙◌, ℕ, ◌<◌, ◌≤◌, min, Bool, true, false, not, ◌&&◌, refl, arith, ⊎_elim}
use Rattle.std.proofs.lemmas.Bool.{cases_lt, lt-ltb, le-ltb, leb-true, le-leb, lt-leb}
use Rattle.std.proofs.lemmas.Int.{ints}
use Rattle.std.specs.Int.{int_div_euclid}
use Rattle.std.specs.Prelude.{int_le, nat_le, nat_lt}
use lib.IntN.{ℤ, pos, negsuc, ◌+ℤ◌}
use lib.Signed.{◌≤ℤ◌}
use Rattle.geom.specs.Device.{centre}
use Rattle.geom.specs.Edge.{EdgeEnds, low_end, high_end}
use Rattle.geom.proofs.Products.{same_order, same_test}
use Rattle.geom.proofs.Quotients.{quotient_parts}
use Rattle.clip.specs.EdgeClass.{at_least_zero, first_row, rows_of, has_row, crosses_row}
use Rattle.clip.proofs.Sides.{crosses-ends}

-- an index that is cut off at 0 and at h is at most j where it was
pub cut-at_most : (q : ℤ) (h j : ℕ) → j < h → nat_le (min (at_least_zero q) h) j ≡ int_le q (pos j)
cut-at_most (pos n) h j p = same_test (nat_le (min n h) j) (int_le (pos n) (pos j))
    (λ e. le-leb n j (omega (arith, leb-true (min n h) j e)))
    (λ e. le-leb (min n h) j (omega (arith, leb-true n j e)))
cut-at_most (negsuc n) h j p = le-leb (min 0 h) j (omega arith)

-- the first row is at most j exactly where its centres lie at that height or below it
pub first_row-at_most : (y : ℤ) (h j : ℕ) → j < h → nat_le (first_row y h) j ≡ int_le y (centre (pos j))
unfolding first_row
first_row-at_most y h j p =
    let parts = quotient_parts (y +ℤ pos 7) (pos 16) (omega (arith, ints)) in
    cut-at_most (int_div_euclid (y +ℤ pos 7) (pos 16)) h j p
    ∙ same_order (int_div_euclid (y +ℤ pos 7) (pos 16)) (pos j) y (centre (pos j))
    (λ (le : int_div_euclid (y +ℤ pos 7) (pos 16) ≤ℤ pos j). omega (arith, ints, parts.0, parts.1))
    (λ (le : y ≤ℤ centre (pos j)). omega (arith, ints, parts.0, parts.1))

pub first_row-most : (y : ℤ) (h : ℕ) → first_row y h ≤ h
unfolding first_row
first_row-most y h = omega arith

-- a number is below another where the other isn't at most it
lt-not_le : (j n : ℕ) → nat_lt j n ≡ not (nat_le n j)
lt-not_le j n = ⊎_elim
    (λ (lt : j < n). rw (lt-ltb j n lt, lt-leb n j lt))
    (λ (ge : n ≤ j). rw (le-ltb j n ge, le-leb n j ge))
    (cases_lt j n)

-- the rows of an edge are those that it crosses
pub rows_of-all : (e : EdgeEnds) (h j : ℕ) → has_row (rows_of e h) j ≡ (nat_lt j h && crosses_row e j)
rows_of-all e h j = ⊎_elim
    (λ (lt : j < h). rw (
      lt-not_le j (first_row (high_end e).y h),
      first_row-at_most (low_end e).y h j lt,
      first_row-at_most (high_end e).y h j lt,
      lt-ltb j h lt,
      crosses-ends e (centre (pos j)),
    ))
    (λ (ge : h ≤ j). rw (le-ltb j (first_row (high_end e).y h) (omega (arith, first_row-most (high_end e).y h)), le-ltb j h ge) (no-row (nat_le (first_row (low_end e).y h) j)))
    (cases_lt j h)
  where
    no-row : (t : Bool) → (t && false) ≡ false
    no-row true = refl
    no-row false = refl
