-- Counts of at most ten digits, which no cap cuts.
use Rattle.std.proofs.Common.{◌≡◌, ℕ, ◌^◌, ◌<◌, ◌≤◌, Bool, true, false, List, Some, length, refl, ap, arith}
use Rattle.std.proofs.Math.Nat.{pow-le-pow_right}
use Rattle.std.specs.Char.{is_ascii_digit}
use Rattle.std.specs.List.{list_all}
use Rattle.std.specs.Option.{option_map}
use Rattle.geom.specs.Decimal.{number_of}
use Rattle.geom.specs.Natural.{number_in, up_to}
use Rattle.geom.proofs.Digits.{number_of-below}

-- the number of at most ten digits is below ten thousand million
pub counted : (text : List ℕ) → length text ≤ 10 → option_map (up_to 10000000000) (number_in text) ≡ number_in text
counted text short = go (list_all is_ascii_digit text) refl
  where
    go : (t : Bool) → list_all is_ascii_digit text ≡ t → option_map (up_to 10000000000) (number_in text) ≡ number_in text
    go true all =
        let below : number_of text < 10 ^ length text = number_of-below text all in
        let most : 10 ^ length text ≤ 10 ^ 10 = pow-le-pow_right {n = 10} (omega arith) short in
        let same : up_to 10000000000 (number_of text) ≡ number_of text = omega arith in
        rw all (ap Some same)
    go false all = rw all refl
