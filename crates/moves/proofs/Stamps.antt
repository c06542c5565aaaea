-- Stamps as they lie from a pixel.
use Rattle.std.proofs.Common.{◌≡◌, ◌∙◌, ℕ, ◌+◌, ◌*◌, ◌/◌, ◌&&◌, if◌then◌else◌, Option, None, Some, ap, arith}
use Rattle.std.proofs.lemmas.Int.{ints}
use Rattle.std.specs.Option.{option_and_then}
use Rattle.std.specs.Prelude.{int_le, int_lt, slice_get}
use lib.IntN.{ℤ, pos, ◌+ℤ◌, ◌-ℤ◌}
use Rattle.clip.specs.EdgeClass.{at_least_zero}
use Rattle.symbols.specs.Stamp.{covers_pixel, is_coloured, position_on}
use Rattle.moves.specs.Laws.{StampColoursMove, StampsMove}

-- a position on a side, by how far a column or row lies from its first
abbrev place_on : ℕ → ℤ → Option ℕ
place_on side apart = if int_le (pos 0) apart && int_lt apart (pos side) then Some (at_least_zero apart) else None

position-from : (side : ℕ) (at k z : ℤ) → position_on side (at -ℤ k) z ≡ position_on side at (k +ℤ z)
position-from side at k z = ap (place_on side) (apart (pos (side / 2)))
  where
    apart : (n : ℤ) → z -ℤ ((at -ℤ k) -ℤ n) ≡ (k +ℤ z) -ℤ (at -ℤ n)
    apart n = omega (arith, ints)

pub stamp-colours-move : StampColoursMove
stamp-colours-move c s i j =
    ap (option_and_then (λ column. option_and_then (λ row. slice_get s.pixmap.pixels (row * s.pixmap.width + column)) (position_on s.pixmap.height (s.pixel.j -ℤ c.j) j)))
    (position-from s.pixmap.width s.pixel.i c.i i)
    ∙ ap (λ place. option_and_then (λ column. option_and_then (λ row. slice_get s.pixmap.pixels (row * s.pixmap.width + column)) place) (position_on s.pixmap.width s.pixel.i (c.i +ℤ i)))
    (position-from s.pixmap.height s.pixel.j c.j j)

pub stamps-move : StampsMove
unfolding covers_pixel
stamps-move c s i j = ap is_coloured (stamp-colours-move c s i j)
