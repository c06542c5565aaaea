-- Discs, and rings.
use Rattle.std.proofs.Common.{◌≡◌, ◌∙◌, ℕ, ◌*◌, ◌-◌, ◌≤◌, Bool, true, false, ◌&&◌, ◌||◌, not, refl, sym, ap, arith, ⊎_elim}
use Rattle.std.proofs.lemmas.Bool.{and_from, and_left}
use Rattle.std.proofs.lemmas.Int.{int_min_is, ints}
use Rattle.std.specs.Int.{int_min}
use Rattle.std.specs.Prelude.{int_le}
use lib.IntN.{ℤ, pos, ◌+ℤ◌, ◌-ℤ◌}
use lib.Signed.{◌≤ℤ◌}
use Rattle.geom.proofs.Products.{is_le, is_not_le, le_of, not_le_of, same_test}
use Rattle.geom.specs.Device.{DevicePoint}
use Rattle.strokes.specs.Disc.{DiscValue, covers_disc, is_within_half}
use Rattle.strokes.specs.DiscLaw.{BordersBelongToDiscs, DiscsAreRoundPoints, DiscsAreSymmetric, HalfRingsAreDiscs}
use Rattle.strokes.specs.Round.{apart, covers_round, is_about, is_round, point_edge, square, square_of_half}
use Rattle.strokes.proofs.RoundBox.{not-across, not-down}
use Rattle.strokes.proofs.RoundNear.{disc-law}
use Rattle.strokes.proofs.Rounded.{square-order}
use Rattle.strokes.proofs.Squares.{square-nonneg}

-- what is about one number is within half of it
about-one : (w : ℕ) (a z : ℤ) → is_about w a a z ≡ is_within_half w a z
about-one w a z = rw least refl
  where
    least : int_min a a ≡ a
    least = omega (arith, ints, int_min_is a a)

-- a disc covers nothing more than half its size left or right of its centre, or above or below it
not-round : (d : DiscValue) (p : DevicePoint) → covers_round d.size (point_edge d.at) p ≡ false → covers_disc d p ≡ false
unfolding covers_disc
not-round d p h = and_left (is_round d.size d.at p) (int_le (square_of_half d.hole) (apart d.at p)) (sym (disc-law d.size d.at p) ∙ h)

pub disc-across : (d : DiscValue) (x y : ℤ) → is_within_half d.size d.at.x x ≡ false → covers_disc d (record { x = x; y = y }) ≡ false
disc-across d x y h = not-round d (record { x = x; y = y }) (not-across d.size (point_edge d.at) x y (about-one d.size d.at.x x ∙ h))

pub disc-down : (d : DiscValue) (x y : ℤ) → is_within_half d.size d.at.y y ≡ false → covers_disc d (record { x = x; y = y }) ≡ false
disc-down d x y h = not-round d (record { x = x; y = y }) (not-down d.size (point_edge d.at) x y (about-one d.size d.at.y y ∙ h))

-- a number that isn't less than another one is that one or more
not-less : (a s : ℤ) → not (int_le a (s -ℤ pos 1)) ≡ int_le s a
not-less a s = same_test (not (int_le a (s -ℤ pos 1))) (int_le s a)
    (λ h. is_le s a (omega (arith, ints, not_le_of a (s -ℤ pos 1) (off (int_le a (s -ℤ pos 1)) h))))
    (λ h. ap not (is_not_le a (s -ℤ pos 1) (omega (arith, ints, le_of s a h))))
  where
    off : (t : Bool) → not t ≡ true → t ≡ false
    off false h = refl
    off true h = sym h

-- the columns of a disc of which those of its hole are left out
pub disc-row : (d : DiscValue) (p : DevicePoint) (l r s h : Bool) → (l || r) ≡ (s && not h) → s ≡ int_le (apart d.at p) (square_of_half d.size) →
    h ≡ int_le (apart d.at p) (square_of_half d.hole -ℤ pos 1) → (l || r) ≡ covers_disc d p
unfolding covers_disc
disc-row d p l r s h all e f = all ∙ (ap (λ t. t && not h) e ∙ ap (λ t. is_round d.size d.at p && t) (ap not f ∙ not-less (apart d.at p) (square_of_half d.hole)))

-- the laws
no-hole : (z : ℤ) → pos 0 ≤ℤ z → int_le (square_of_half 0) z ≡ true
no-hole z h = is_le (pos 0) z h

apart-nonneg : (a p : DevicePoint) → pos 0 ≤ℤ apart a p
apart-nonneg a p = go (square (p.x -ℤ a.x)) (square (p.y -ℤ a.y)) (square-nonneg (p.x -ℤ a.x)) (square-nonneg (p.y -ℤ a.y))
  where
    go : (s t : ℤ) → pos 0 ≤ℤ s → pos 0 ≤ℤ t → pos 0 ≤ℤ (s +ℤ t)
    go s t h k = omega (arith, ints, h, k)

and-true : (t u : Bool) → u ≡ true → (t && u) ≡ t
and-true true u h = h
and-true false u h = refl

pub round-points : DiscsAreRoundPoints
unfolding covers_disc
round-points at size p = and-true (is_round size at p) (int_le (square_of_half 0) (apart at p)) (no-hole (apart at p) (apart-nonneg at p)) ∙ sym (disc-law size at p)

pub symmetric : DiscsAreSymmetric
unfolding covers_disc
symmetric d p q e = ap (λ z. int_le z (square_of_half d.size) && int_le (square_of_half d.hole) z) e

halves-order : (m n : ℕ) → m ≤ n → square_of_half m ≤ℤ square_of_half n
halves-order m n h = square-order (pos (8 * n)) (pos (8 * m)) (omega (arith, ints)) (omega (arith, ints, h))

pub borders : BordersBelongToDiscs
unfolding covers_disc
borders d p h e = ⊎_elim (outer (apart d.at p)) (inner (apart d.at p)) e
  where
    order : square_of_half d.hole ≤ℤ square_of_half d.size
    order = halves-order d.hole d.size h

    outer : (z : ℤ) → z ≡ square_of_half d.size → (int_le z (square_of_half d.size) && int_le (square_of_half d.hole) z) ≡ true
    outer z same = and_from (int_le z (square_of_half d.size)) (int_le (square_of_half d.hole) z)
        (is_le z (square_of_half d.size) (omega (arith, ints, same))) (is_le (square_of_half d.hole) z (rw same order))

    inner : (z : ℤ) → z ≡ square_of_half d.hole → (int_le z (square_of_half d.size) && int_le (square_of_half d.hole) z) ≡ true
    inner z same = and_from (int_le z (square_of_half d.size)) (int_le (square_of_half d.hole) z)
        (is_le z (square_of_half d.size) (rw same order)) (is_le (square_of_half d.hole) z (omega (arith, ints, same)))

pub half-rings : HalfRingsAreDiscs
half-rings at size width h = ap (λ (n : ℕ). hollow n) (none size (2 * width) h)
  where
    hollow : ℕ → DiscValue
    hollow n = record { at = at; size = size; hole = n }

    none : (a b : ℕ) → a ≤ b → a - b ≡ 0
    none a b h = omega arith
