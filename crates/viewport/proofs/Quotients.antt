-- Sixteenths are rounded down.
use Rattle.std.proofs.Common.{◌*◌, arith}
use Rattle.std.proofs.lemmas.Int.{ints}
use Rattle.std.specs.Int.{int_div_euclid}
use lib.IntN.{ℤ, pos, ◌+ℤ◌, ◌*ℤ◌}
use lib.Signed.{◌<ℤ◌, ◌≤ℤ◌}
use Rattle.geom.proofs.Quotients.{quotient_parts, at_most-by_product}
use Rattle.viewport.specs.View.{sixteenths, SixteenthsAreRoundedDown}

-- the law
pub sixteenths-law : SixteenthsAreRoundedDown
unfolding sixteenths
sixteenths-law pixels part whole h =
    let parts : ((int_div_euclid (pos (16 * pixels) *ℤ part) whole *ℤ whole) ≤ℤ (pos (16 * pixels) *ℤ part))
    × ((pos (16 * pixels) *ℤ part) <ℤ (int_div_euclid (pos (16 * pixels) *ℤ part) whole *ℤ whole +ℤ whole))
    = quotient_parts (pos (16 * pixels) *ℤ part) whole h in
    record {
      at_most = parts.0;
      greatest = λ m most. at_most-by_product m (int_div_euclid (pos (16 * pixels) *ℤ part) whole) whole h (omega (arith, ints));
    }
