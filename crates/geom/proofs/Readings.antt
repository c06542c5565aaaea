-- The parts of a text, and the decimal number that they are.
use Rattle.std.proofs.Common.{◌≡◌, ℕ, ℤ, ◌+◌, ◌-◌, ◌^◌, ◌<◌, ◌≤◌, ◌++◌, Bool, true, false, Option, Some, None, List, length, take, drop, length-append, length-take, length-drop, refl, ◌∙◌, ap, arith}
use Rattle.std.proofs.lemmas.List.{take_rest}
use Rattle.std.proofs.lemmas.List.Sums.{passes_at_first, fails_before_first}
use Rattle.std.proofs.lemmas.List.Folds.{list_any_at, list_any_none}
use Rattle.std.proofs.lemmas.Grind.{common_steps}
use Rattle.std.specs.List.{list_any, position_or_len, before_first, after_first}
use Rattle.std.specs.Option.{option_map}
use Rattle.geom.specs.Capped.{capped_exponent, clamped_to_limits, scaled}
use Rattle.geom.specs.Decimal.{is_point, is_exponent_letter, are_digits, whole_number, exponent_of, Decimal, decimal_with, decimal_of, millionths_of}
use Rattle.geom.specs.declared.decimal.Exponent.{Exponent}
use Rattle.geom.proofs.Caps.{millionths-are}
use Rattle.geom.proofs.Cuts.{digits-both}

-- a text has a byte of a kind where the first one is within it
any-within : (p : ℕ → Bool) (text : List ℕ) → position_or_len p text < length text → list_any p text ≡ true
any-within p text h = list_any_at p text (position_or_len p text) 0 h (passes_at_first p text 0 h)

-- and none where it would be at the end
any-none : (p : ℕ → Bool) (text : List ℕ) → length text ≤ position_or_len p text → list_any p text ≡ false
any-none p text h = list_any_none p text (λ k e m. let fails = fails_before_first p text k 0 (omega arith) in grind (arith, common_steps))

-- the exponent after its letter
pub exponent-after : (text : List ℕ) (at : ℕ) → at ≡ position_or_len is_exponent_letter text → at < length text →
    whole_number (take (length text - (at + 1)) (drop (at + 1) text)) ≡ exponent_of text
exponent-after text at is h =
    let letter : list_any is_exponent_letter text ≡ true = any-within is_exponent_letter text (omega arith) in
    ap whole_number (take_rest text (at + 1) ∙ ap (λ n. drop (n + 1) text) is)
    ∙ rw letter refl

-- without a letter the exponent is 0
pub exponent-none : (text : List ℕ) (at : ℕ) → at ≡ position_or_len is_exponent_letter text → length text ≤ at →
    Some (record { up = 0; down = 0 }) ≡ option_map capped_exponent (exponent_of text)
exponent-none text at is h =
    let none : list_any is_exponent_letter text ≡ false = any-none is_exponent_letter text (omega arith) in
    rw none refl

-- the parts of a decimal number, and its millionths
decimal-parts : (whole decimals : List ℕ) (power : Option ℤ) (exponent : Exponent) (size : ℕ) → length whole + length decimals < 2 ^ 63 →
    Some exponent ≡ option_map capped_exponent power → are_digits whole decimals ≡ true →
    clamped_to_limits size ≡ clamped_to_limits (scaled (whole ++ decimals) (exponent.up + 6) (length decimals + exponent.down)) →
    Some (clamped_to_limits size) ≡ option_map (λ (d : Decimal). clamped_to_limits (millionths_of d)) (decimal_with whole decimals power)
decimal-parts whole decimals None exponent size short is digits same = cc
decimal-parts whole decimals (Some z) exponent size short is digits same =
    let exact : exponent ≡ capped_exponent z = cc in
    let all = digits-both whole decimals digits in
    rw digits (ap Some (same
    ∙ ap (λ (e : Exponent). clamped_to_limits (scaled (whole ++ decimals) (e.up + 6) (length decimals + e.down))) exact
    ∙ millionths-are (record { whole = whole; decimals = decimals; exponent = z }) all (omega (arith, length-append whole decimals)) (omega arith)))

-- the parts before a byte of a kind and after it are no longer than the text
parts-fit : (p : ℕ → Bool) (text : List ℕ) → length (before_first p text) + length (after_first p text) ≤ length text
parts-fit p text = omega (arith, length-take (position_or_len p text) text, length-drop (position_or_len p text + 1) text)

-- a text that was read: its exponent, and the digits on both sides of its point
pub decimal-read : (text whole decimals : List ℕ) (at : ℕ) (exponent : Exponent) (size : ℕ) → length text < 2 ^ 63 → at ≡ position_or_len is_exponent_letter text →
    whole ≡ before_first is_point (take at text) → decimals ≡ after_first is_point (take at text) →
    Some exponent ≡ option_map capped_exponent (exponent_of text) → are_digits whole decimals ≡ true →
    clamped_to_limits size ≡ clamped_to_limits (scaled (whole ++ decimals) (exponent.up + 6) (length decimals + exponent.down)) →
    Some (clamped_to_limits size) ≡ option_map (λ (d : Decimal). clamped_to_limits (millionths_of d)) (decimal_of text)
decimal-read text whole decimals at exponent size short letter front back power digits same =
    let mantissa : take at text ≡ before_first is_exponent_letter text = ap (λ n. take n text) letter in
    let sizes : length whole + length decimals ≤ length (take at text) = rw (front, back) (parts-fit is_point (take at text)) in
    let parts : length whole + length decimals < 2 ^ 63 = omega (arith, length-take at text) in
    decimal-parts whole decimals (exponent_of text) exponent size parts power digits same
    ∙ ap (λ (w : List ℕ). option_map (λ (d : Decimal). clamped_to_limits (millionths_of d)) (decimal_with w decimals (exponent_of text))) (front ∙ ap (before_first is_point) mantissa)
    ∙ ap (λ (ds : List ℕ). option_map (λ (d : Decimal). clamped_to_limits (millionths_of d)) (decimal_with (before_first is_point (before_first is_exponent_letter text)) ds (exponent_of text))) (back ∙ ap (after_first is_point) mantissa)
