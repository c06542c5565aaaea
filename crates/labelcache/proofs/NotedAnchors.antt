-- Anchors that are kept by the cells that contain them.
use Rattle.std.proofs.Common.{◌≡◌, ℕ, ◌^◌, ◌<◌, List, [], ◌∷◌, ◌++◌, ℤ, subst, ap, ◌∙◌, ⊎_elim, arith}
use Rattle.std.proofs.lemmas.Int.{ints}
use Rattle.std.proofs.lemmas.List.Elements.{All-push, All-weaker}
use Rattle.std.proofs.lemmas.List.Quantifiers.{Any-push}
use Rattle.std.specs.BTreeSet.{BTreeSet}
use Rattle.std.specs.List.{All, Any}
use Rattle.std.specs.Prelude.{IsTrue, unsigned_abs, ◌⊎◌}
use lib.IntN.{◌-ℤ◌}
use Rattle.geom.specs.Device.{PixelValue}
use Rattle.geom.specs.Range.{IsBelow}
use Rattle.labelcache.specs.Anchors.{IsAnchorNear}
use Rattle.labelcache.specs.Candidate.{IsAnchor}
use Rattle.labelcache.specs.Cells.{AreNoted, HasNearPoint, IsMarked, IsPointNear, IsWithin, apart, cell_of, has, offset, point_of}
use Rattle.labelcache.specs.declared.cells.Cell.{Cell}
use Rattle.labelcache.specs.declared.cells.GridPoint.{GridPoint}
use Rattle.collide.proofs.Boxed.{any-left}

-- two columns, or rows, are as far apart from wherever they are counted
apart-offset : (a b : ℤ) → IsBelow (2 ^ 32) a → IsBelow (2 ^ 32) b → apart (offset a) (offset b) ≡ unsigned_abs (a -ℤ b)
apart-offset a b h k = omega (arith, ints, h, k)

pub offset-within : (a : ℤ) → IsBelow (2 ^ 32) a → offset a < 2 ^ 33
offset-within a h = omega (arith, ints, h)

pub point-within : (p : PixelValue) → IsAnchor p → IsWithin (point_of p)
point-within p h = record { column = offset-within p.i h.column; row = offset-within p.j h.row }

pub point-near : (c p : PixelValue) (d : ℕ) → IsAnchor c → IsAnchor p → IsAnchorNear c d p → IsPointNear (point_of c) d (point_of p)
point-near c p d h k near = rw (apart-offset c.i p.i h.column k.column, apart-offset c.j p.j h.row k.row) near

pub place-near : (c p : PixelValue) (d : ℕ) → IsAnchor c → IsAnchor p → IsPointNear (point_of c) d (point_of p) → IsAnchorNear c d p
place-near c p d h k near = rw (apart-offset c.i p.i h.column k.column, apart-offset c.j p.j h.row k.row) at near

-- what holds for all elements holds for an element that is read with a default
all-at : {X : Type 0} (P : X → Type 0) (xs : List X) → All P xs → (a : Any (λ x. Unit {0}) xs) → P a.1
all-at P xs all a = subst P a.3 (all a.0 a.1 a.2)

moved : (s : GridPoint) (d x y column row : ℕ) → x ≡ column → y ≡ row → IsPointNear s d (record { column = x; row = y }) →
    IsPointNear s d (record { column = column; row = row })
moved s d x y column row e f near = rw (e, f) at near

-- a point that is found by cells is an anchor that is near
pub found-place : (marked : BTreeSet (ℕ × (ℕ × ℕ))) (anchors : List PixelValue) (c : PixelValue) (d : ℕ) → AreNoted marked anchors → IsAnchor c →
    HasNearPoint marked (point_of c) d → Any (IsAnchorNear c d) anchors
found-place marked anchors c d noted h found =
    let a = noted.only found.cell found.lowest found.is in
    let p = a.1 in
    let k : IsAnchor p = all-at IsAnchor anchors noted.sizes (a.0, a.1, a.2, a.3, tt) in
    let column : found.cell.column ≡ offset p.i = ap (λ (cell : Cell). cell.column) a.4 ∙ omega arith in
    let row : found.cell.row ≡ offset p.j = ap (λ (cell : Cell). cell.row) a.4 ∙ omega arith in
    (a.0, a.1, a.2, a.3, place-near c p d h k (moved (point_of c) d found.cell.column found.cell.row (offset p.i) (offset p.j) column row found.near))

-- marking a point keeps the anchors that were kept before
pub noted-grows : (old new : BTreeSet (ℕ × (ℕ × ℕ))) (anchors : List PixelValue) → AreNoted old anchors →
    ((q : Cell) → IsTrue (has old q) → IsTrue (has new q)) →
    ((q : Cell) → q.level ≡ 0 → IsTrue (has new q) → IsTrue (has old q)) → AreNoted new anchors
noted-grows old new anchors noted grows only = record {
  sizes = noted.sizes;
  each = All-weaker (λ p. IsMarked old (point_of p)) (λ p. IsMarked new (point_of p)) (λ p m level most. grows (cell_of level (point_of p)) (m level most)) anchors noted.each;
  only = λ cell low is. noted.only cell low (only cell low is);
}

-- and adds the anchor of the point
pub noted-more : (old new : BTreeSet (ℕ × (ℕ × ℕ))) (anchors : List PixelValue) (anchor : PixelValue) → AreNoted old anchors → IsAnchor anchor →
    ((q : Cell) → IsTrue (has old q) → IsTrue (has new q)) → IsMarked new (point_of anchor) →
    ((q : Cell) → q.level ≡ 0 → IsTrue (has new q) → IsTrue (has old q) ⊎ (q ≡ cell_of 0 (point_of anchor))) → AreNoted new (anchors ++ anchor ∷ [])
noted-more old new anchors anchor noted size grows is only = record {
  sizes = All-push IsAnchor anchors anchor noted.sizes size;
  each = All-push (λ p. IsMarked new (point_of p)) anchors anchor
      (All-weaker (λ p. IsMarked old (point_of p)) (λ p. IsMarked new (point_of p)) (λ p m level most. grows (cell_of level (point_of p)) (m level most)) anchors noted.each) is;
  only = λ cell low marked. ⊎_elim
      (λ was. any-left (λ p. cell ≡ cell_of 0 (point_of p)) anchors (anchor ∷ []) (noted.only cell low was))
      (λ here. Any-push (λ p. cell ≡ cell_of 0 (point_of p)) anchors anchor here)
      (only cell low marked);
}

-- an anchor that is near is found by cells
pub place-found : (marked : BTreeSet (ℕ × (ℕ × ℕ))) (anchors : List PixelValue) (c : PixelValue) (d : ℕ) → AreNoted marked anchors → IsAnchor c →
    Any (IsAnchorNear c d) anchors → (p : GridPoint) × IsWithin p × IsMarked marked p × IsPointNear (point_of c) d p
place-found marked anchors c d noted h a =
    let k : IsAnchor a.1 = all-at IsAnchor anchors noted.sizes (a.0, a.1, a.2, a.3, tt) in
    (point_of a.1, point-within a.1 k, all-at (λ p. IsMarked marked (point_of p)) anchors noted.each (a.0, a.1, a.2, a.3, tt), point-near c a.1 d h k a.4)
