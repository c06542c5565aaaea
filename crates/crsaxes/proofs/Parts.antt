-- The parts of a text between commas.
use Rattle.std.proofs.Common.{Bor, ◌≡◌, ℕ, ◌<◌, Bool, true, false, List, [], ◌∷◌, length, refl, arith}
use Rattle.std.specs.Prelude.{Option, None, Some, MatchOption, Err}
use Rattle.std.specs.List.{position_or_len, before_first, after_first}
use Rattle.std.proofs.lemmas.List.Splits.{slice_split_first, length-slice_split}
use Rattle.crsaxes.specs.Axes.{is_comma, metres_across, parts, box_of_parts}
use Rattle.crsaxes.specs.declared.crs.Crs.{Crs}
use Rattle.crsaxes.specs.declared.crs.Crs.TheVariants.{Crs84, Epsg3857, Epsg4326}
use Rattle.crsaxes.specs.declared.fault.AxisFault.TheVariants.{NotFour}

-- at the first comma a text falls into the part before it and the parts after it
pub parts-at_comma : (text before after : List ℕ) → position_or_len is_comma text < length text →
    before ≡ before_first is_comma text → after ≡ after_first is_comma text → parts text ≡ before ∷ parts after
parts-at_comma text before after h b a = rw (b, a) (slice_split_first is_comma text 0 h)

-- a text without a comma is its one part, also with a further byte before it
parts-one_more : (b : ℕ) (bs : List ℕ) (t : Bool) → t ≡ is_comma b → position_or_len is_comma (b ∷ bs) ≡ length (b ∷ bs) →
    (position_or_len is_comma bs ≡ length bs → parts bs ≡ bs ∷ []) → parts (b ∷ bs) ≡ (b ∷ bs) ∷ []
parts-one_more b bs true e h rest = absurd (omega (arith, rw (← e) at h))
parts-one_more b bs false e h rest =
    let none : position_or_len is_comma bs ≡ length bs = omega (arith, rw (← e) at h) in
    rw (← e, rest none) refl

pub parts-one : (text : List ℕ) → position_or_len is_comma text ≡ length text → parts text ≡ text ∷ []
parts-one [] h = refl
parts-one (b ∷ bs) h = parts-one_more b bs (is_comma b) refl h (parts-one bs)

-- where a further part follows four, there are not four
pub parts-five : (crs : Crs) (a b c d : List ℕ) (text : List ℕ) →
    (box_of_parts crs (a ∷ b ∷ c ∷ d ∷ parts text) ≡ Err NotFour) × (metres_across crs (a ∷ b ∷ c ∷ d ∷ parts text) ≡ None)
parts-five crs a b c d text = some crs (parts text) (omega (arith, length-slice_split is_comma text))
  where
    some : (crs : Crs) (others : List (List ℕ)) → 0 < length others →
        (box_of_parts crs (a ∷ b ∷ c ∷ d ∷ others) ≡ Err NotFour) × (metres_across crs (a ∷ b ∷ c ∷ d ∷ others) ≡ None)
    some crs [] h = absurd (omega arith)
    some Crs84 (e ∷ es) h = (refl, refl)
    some Epsg4326 (e ∷ es) h = (refl, refl)
    some Epsg3857 (e ∷ es) h = (refl, refl)

-- a search for the first comma finds the first part of a text
pub next-part : (text : List ℕ) (r : Option (Bor (List ℕ) × Bor (List ℕ))) →
    MatchOption r (position_or_len is_comma text ≡ length text)
    (λ p. (position_or_len is_comma text < length text) × (p.0.now ≡ before_first is_comma text) × (p.1.now ≡ after_first is_comma text)) →
    MatchOption r (parts text ≡ text ∷ []) (λ p. parts text ≡ p.0.now ∷ parts p.1.now)
next-part text None h = parts-one text h
next-part text (Some p) h = let (at, before, after) = h in parts-at_comma text p.0.now p.1.now at before after
