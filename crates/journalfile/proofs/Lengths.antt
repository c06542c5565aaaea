-- How many bytes a journal notes of its log.
use Rattle.std.proofs.Common.{◌≡◌, ℕ, ◌+◌, ◌-◌, ◌<◌, ◌^◌, min, List, ◌++◌, length, ap, arith, length-append}

-- where bytes are added to a log, so many more are noted
pub noted_more : (old new bytes : List ℕ) (before : ℕ) → before ≡ min (length old) (2 ^ 64 - 1) → new ≡ old ++ bytes
    → min (before + length bytes) (2 ^ 64 - 1) ≡ min (length new) (2 ^ 64 - 1)
noted_more old new bytes before noted is = omega (arith, noted, ap (λ (l : List ℕ). length l) is, length-append old bytes)

-- a length that is a number of 8 bytes is noted as it is
pub noted_length : (file : List ℕ) (n : ℕ) → length file ≡ n → n < 2 ^ 64 → n ≡ min (length file) (2 ^ 64 - 1)
noted_length file n is small = omega (arith, is, small)
