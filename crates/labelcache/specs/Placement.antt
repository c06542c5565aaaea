-- Which labels are placed, and where (docs/DRAWING.md, "Labels").
use Rattle.std.specs.Prelude.{◌≡◌, ℕ, ℤ, ◌<◌, ◌≤◌, false, List, Some, slice_get, All}
use Rattle.std.specs.List.{AllPairs}
use Rattle.collide.specs.declared.marks.TheConstants.{MAX_SIDE}
use Rattle.geom.specs.Device.{PixelValue}
use Rattle.geom.specs.PxBox.{PixelBoxValue, HasPixel, Meets, IsInside}
use Rattle.mapdefs.specs.declared.font.FontFields.{FontFields}
use Rattle.labelcache.specs.declared.cache.Placed.{Placed}
use Rattle.labelcache.specs.Candidate.{CandidateValue, IsTriedBefore, distance_of, square, squared_distance}
use Rattle.labelcache.specs.LabelBox.{corners, taken_at}

-- what labels are placed on: a picture of that width and height, and the fonts of its texts
pub record PageValue : Type 0 where
  pub width : ℕ
  pub height : ℕ
  pub fonts : List FontFields

-- labels may be placed on a picture of that width and height
pub record IsPage (width height : ℕ) : Type 0 where
  pub columns : width ≤ MAX_SIDE
  pub rows : height ≤ MAX_SIDE

-- a page, and the candidates for its labels, by their numbers
pub record Setting : Type 0 where
  pub page : PageValue
  pub candidates : List CandidateValue

abbrev pub setting : PageValue → List CandidateValue → Setting
setting page candidates = record { page = page; candidates = candidates }

-- a label shares no pixel with the box
abbrev pub IsClear : PixelBoxValue → Placed → Type 0
IsClear taken label = Meets taken label.taken → ⊥

-- a label has another text than the candidate, or an anchor that is at least the candidate's distance away
abbrev pub IsApart : List CandidateValue → CandidateValue → Placed → Type 0
IsApart candidates c label = (other : CandidateValue) → slice_get candidates label.number ≡ Some other → other.text ≡ c.text →
    square (distance_of c) ≤ squared_distance c.anchor other.anchor

-- a candidate's text may have its corner at a pixel, by its label's tests against the labels that are tried before it:
-- without PARTIALS its box lies in the picture, and without FORCE it is clear of those labels and far enough from them
pub record Passes (s : Setting) (labels : List Placed) (n : ℕ) (c : CandidateValue) (at : PixelValue) : Type 0 where
  pub shown : c.label.partials ≡ false → IsInside (taken_at s.page.fonts c at) s.page.width s.page.height
  pub clear : c.label.force ≡ false → All (λ label. IsTriedBefore s.candidates label.number n → IsClear (taken_at s.page.fonts c at) label) labels
  pub apart : c.label.force ≡ false → All (λ label. IsTriedBefore s.candidates label.number n → IsApart s.candidates c label) labels

-- the first element for which P holds
pub record IsFirst {X : Type 0} (P : X → Type 0) (xs : List X) (x : X) : Type 0 where
  pub index : ℕ
  pub is : slice_get xs index ≡ Some x
  pub holds : P x
  pub none : (i : ℕ) (y : X) → i < index → slice_get xs i ≡ Some y → P y → ⊥

-- a label has a candidate, and stands at the first of its corners that passes, with the box that it takes there
pub record Stands (s : Setting) (labels : List Placed) (label : Placed) : Type 0 where
  pub candidate : CandidateValue
  pub is : slice_get s.candidates label.number ≡ Some candidate
  pub first : IsFirst (Passes s labels label.number candidate) (corners s.page.fonts candidate) label.at
  pub taken : label.taken ≡ taken_at s.page.fonts candidate label.at

-- none of a candidate's corners passes
abbrev pub IsShutOut : Setting → List Placed → ℕ → CandidateValue → Type 0
IsShutOut s labels n c = (i : ℕ) (at : PixelValue) → slice_get (corners s.page.fonts c) i ≡ Some at → Passes s labels n c at → ⊥

-- a list of labels has none with that number
abbrev pub HasNone : List Placed → ℕ → Type 0
HasNone labels n = All (λ label. label.number ≡ n → ⊥) labels

-- the labels stand in the order of trial, each at the first corner that passes, and each candidate without a label is shut out
pub record IsPlacement (s : Setting) (labels : List Placed) : Type 0 where
  pub order : AllPairs (λ a b. IsTriedBefore s.candidates a.number b.number) labels
  pub stands : (k : ℕ) (label : Placed) → slice_get labels k ≡ Some label → Stands s labels label
  pub left_out : (n : ℕ) (c : CandidateValue) → slice_get s.candidates n ≡ Some c → HasNone labels n → IsShutOut s labels n c

-- the law that there is at most one placement
abbrev pub HasOnePlacement : Type 0
HasOnePlacement = (s : Setting) (a b : List Placed) → IsPlacement s a → IsPlacement s b → a ≡ b

-- a label's candidate is without FORCE
pub record IsUnforced (s : Setting) (label : Placed) : Type 0 where
  pub candidate : CandidateValue
  pub is : slice_get s.candidates label.number ≡ Some candidate
  pub unforced : candidate.label.force ≡ false

-- the law that the boxes of two labels of a placement share no pixel, where the later one is placed without FORCE
abbrev pub UnforcedShareNoPixel : Type 0
UnforcedShareNoPixel = (s : Setting) (labels : List Placed) → IsPlacement s labels → (i k : ℕ) (a b : Placed) → i < k →
    slice_get labels i ≡ Some a → slice_get labels k ≡ Some b → IsUnforced s b →
    (column row : ℤ) → HasPixel a.taken column row → HasPixel b.taken column row → ⊥
