-- The labels that are placed so far, and what one more candidate changes: the account of the code.
use Rattle.std.specs.Prelude.{◌≡◌, ℕ, ◌<◌, ◌≤◌, false, List, [], ◌∷◌, ◌++◌, map, Some, slice_get, All, ◌⊎◌}
use Rattle.std.specs.List.{AllPairs, AllZip}
use Rattle.geom.specs.Device.{PixelValue}
use Rattle.geom.specs.PxBox.{PixelBoxValue, IsInside}
use Rattle.mapdefs.specs.declared.label.LabelFields.{LabelFields}
use Rattle.labelcache.specs.declared.cache.Placed.{Placed}
use Rattle.labelcache.specs.Anchors.{IsTooNear}
use Rattle.labelcache.specs.Candidate.{CandidateValue, IsTextCorner, IsTriedBefore, priority_of}
use Rattle.labelcache.specs.LabelBox.{corners, taken_at}
use Rattle.labelcache.specs.Placement.{PageValue, Setting, IsClear, IsFirst, Stands, HasNone, IsShutOut}

-- the labels so far, and their candidates
pub record PlacingValue : Type 0 where
  pub labels : List Placed
  pub candidates : List CandidateValue

-- the boxes are those of the labels, whose texts have their corners within their limits
pub record IsKept (boxes : List PixelBoxValue) (labels : List Placed) : Type 0 where
  pub taken : boxes ≡ map (λ (label : Placed). label.taken) labels
  pub corners : All (λ (label : Placed). IsTextCorner label.at) labels

-- a label may take a box: its tests pass on the picture and against the labels so far
pub record IsFree (page : PageValue) (label : LabelFields) (labels : List Placed) (taken : PixelBoxValue) : Type 0 where
  pub shown : label.partials ≡ false → IsInside taken page.width page.height
  pub clear : label.force ≡ false → All (IsClear taken) labels

-- a candidate's box is free where its text's corner is a pixel
abbrev pub IsFreeAt : PageValue → List Placed → CandidateValue → PixelValue → Type 0
IsFreeAt page labels c at = IsFree page c.label labels (taken_at page.fonts c at)

-- the first of some corners where the box is free, with the box there
pub record IsFirstFree (page : PageValue) (labels : List Placed) (c : CandidateValue) (pixels : List PixelValue) (at : PixelValue) (taken : PixelBoxValue) : Type 0 where
  pub first : IsFirst (IsFreeAt page labels c) pixels at
  pub box : taken ≡ taken_at page.fonts c at

-- the box is free at none of them
abbrev pub HasNoFree : PageValue → List Placed → CandidateValue → List PixelValue → Type 0
HasNoFree page labels c pixels = (i : ℕ) (at : PixelValue) → slice_get pixels i ≡ Some at → IsFreeAt page labels c at → ⊥

-- no candidate of a label so far has the same text and an anchor that is too near
abbrev pub IsFar : CandidateValue → List CandidateValue → Type 0
IsFar c others = All (λ other. IsTooNear c other → ⊥) others

-- a candidate's text may have its corner at a pixel
pub record Fits (page : PageValue) (old : PlacingValue) (c : CandidateValue) (at : PixelValue) : Type 0 where
  pub free : IsFreeAt page old.labels c at
  pub far : c.label.force ≡ false → IsFar c old.candidates

-- the first of its corners where it fits, with the box there; or it fits nowhere
pub record IsFirstFit (page : PageValue) (old : PlacingValue) (c : CandidateValue) (at : PixelValue) (taken : PixelBoxValue) : Type 0 where
  pub first : IsFirst (Fits page old c) (corners page.fonts c) at
  pub box : taken ≡ taken_at page.fonts c at

abbrev pub FitsNowhere : PageValue → PlacingValue → CandidateValue → Type 0
FitsNowhere page old c = (i : ℕ) (at : PixelValue) → slice_get (corners page.fonts c) i ≡ Some at → Fits page old c at → ⊥

-- a label of the candidate is added, at the first corner where it fits
pub record Adds (page : PageValue) (n : ℕ) (c : CandidateValue) (old new : PlacingValue) : Type 0 where
  pub label : Placed
  pub number : label.number ≡ n
  pub place : IsFirstFit page old c label.at label.taken
  pub labels : new.labels ≡ old.labels ++ label ∷ []
  pub candidates : new.candidates ≡ old.candidates ++ c ∷ []

-- or it fits nowhere, and all stays
pub record Leaves (page : PageValue) (c : CandidateValue) (old new : PlacingValue) : Type 0 where
  pub none : FitsNowhere page old c
  pub same : new ≡ old

abbrev pub Tries : PageValue → ℕ → CandidateValue → PlacingValue → PlacingValue → Type 0
Tries page n c old new = Adds page n c old new ⊎ Leaves page c old new

-- the order of trial, which has come down to number n of a priority, has reached a number
abbrev pub IsReached : List CandidateValue → ℕ → ℕ → ℕ → Type 0
IsReached candidates priority n m = (priority < priority_of candidates m) ⊎ ((priority_of candidates m ≡ priority) × (n ≤ m))

-- the labels are those of the numbers that are reached
pub record IsPlacedTo (s : Setting) (priority n : ℕ) (placing : PlacingValue) : Type 0 where
  pub order : AllPairs (λ a b. IsTriedBefore s.candidates a.number b.number) placing.labels
  pub stands : (k : ℕ) (label : Placed) → slice_get placing.labels k ≡ Some label → Stands s placing.labels label
  pub reached : All (λ label. IsReached s.candidates priority n label.number) placing.labels
  pub left_out : (m : ℕ) (c : CandidateValue) → slice_get s.candidates m ≡ Some c → IsReached s.candidates priority n m → HasNone placing.labels m → IsShutOut s placing.labels m c
  pub candidates : AllZip (λ label other. slice_get s.candidates label.number ≡ Some other) placing.labels placing.candidates
