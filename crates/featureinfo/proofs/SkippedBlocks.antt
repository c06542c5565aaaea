-- Blocks on one side of the near pixels: their edges cover none of these pixels, or what their chord covers.
use Rattle.std.proofs.Common.{◌≡◌, ◌∙◌, ℕ, ◌+◌, ◌*◌, Bool, true, false, not, List, [], ◌∷◌, map, refl, sym, ap, arith}
use Rattle.std.proofs.lemmas.Int.{ints}
use Rattle.std.specs.List.{AllByRecursion}
use Rattle.std.specs.Prelude.{int_le}
use lib.IntN.{pos, ◌-ℤ◌}
use lib.Signed.{◌<ℤ◌, ◌≤ℤ◌}
use Rattle.geom.proofs.Products.{is_le, is_not_le, not_le_of}
use Rattle.geom.specs.Device.{DevicePoint, pixel_centre}
use Rattle.geom.specs.Edge.{EdgeEnds, crosses_at_or_left}
use Rattle.geom.specs.EvenOdd.{edge_between, is_covered, is_odd}
use Rattle.geom.specs.World.{Area, HasPlace, IsExtent, Place}
use Rattle.viewport.specs.View.{ViewValue, device_point}
use Rattle.vertices.specs.Chain.{HasChain, chain_end}
use Rattle.vertices.proofs.Chains.{beside, left, right}
use Rattle.vertices.proofs.Placing.{end-placed}
use Rattle.featureinfo.specs.FewEdges.{CoverAlike, edges_along}
use Rattle.featureinfo.specs.Nearby.{IsOf}
use Rattle.featureinfo.specs.Reach.{box_reaches, is_within, limit_of}
use Rattle.featureinfo.specs.declared.nearby.Nearby.{Nearby}
use Rattle.featureinfo.specs.declared.side.Side.{Side}
use Rattle.featureinfo.specs.declared.side.Side.TheVariants.{Right, Left, Bottom, Top}
use Rattle.featureinfo.proofs.BlocksReaching.{beyond}
use Rattle.featureinfo.proofs.FewEdges.{covered-one}

-- what follows for the device point of each place of a box holds for all of a block
all-placed : (view : ViewValue) (box : Area) (P : DevicePoint → Type 0) (f : (place : Place) → HasPlace box place → P (device_point view place)) (places : List Place) →
    AllByRecursion (HasPlace box) places → AllByRecursion P (map (device_point view) places)
all-placed view box P f [] all = all
all-placed view box P f (place ∷ places) all = (f place all.0, all-placed view box P f places all.1)

from-not : (b : Bool) → not b ≡ true → b ≡ false
from-not true e = absurd (cc)
from-not false e = refl

module _ (view : ViewValue) (n : Nearby) (box : Area) (from : Place) (rest : List Place) (extent : IsExtent view.area) (inside : HasChain box from rest) where
  abbrev pub point : Place → DevicePoint
  point = device_point view

  abbrev pub chain : List EdgeEnds
  chain = edges_along view from rest

  -- what follows for vertices beyond a side holds for all where the box lies beyond it
  placed : (side : Side) (P : DevicePoint → Type 0) → box_reaches view box (limit_of n side) side ≡ false →
      ((v : DevicePoint) → is_within side (limit_of n side) v ≡ false → P v) → AllByRecursion P (map point (from ∷ rest))
  placed side P far f = all-placed view box P (λ place has. f (point place) (beyond view box (limit_of n side) side place extent has far)) (from ∷ rest) inside

  module _ (i j : ℕ) (at : IsOf n i j) where
    abbrev p : DevicePoint
    p = pixel_centre (pos i) (pos j)

    right-none : box_reaches view box (limit_of n Right) Right ≡ false → is_covered chain p ≡ false
    right-none far = ap is_odd (right p (point from) (map point rest)
        (placed Right (λ v. p.x <ℤ v.x) far (λ v out. omega (arith, ints, not_le_of v.x (pos (16 * n.right + 8)) out, at.right))))

    bottom-none : box_reaches view box (limit_of n Bottom) Bottom ≡ false → is_covered chain p ≡ false
    bottom-none far = ap is_odd (beside p (point from) (map point rest) false
        (placed Bottom (λ v. int_le v.y p.y ≡ false) far (λ v out. is_not_le v.y p.y (omega (arith, ints, not_le_of v.y (pos (16 * n.bottom + 8)) out, at.bottom)))))

    top-none : box_reaches view box (limit_of n Top) Top ≡ false → is_covered chain p ≡ false
    top-none far = ap is_odd (beside p (point from) (map point rest) true
        (placed Top (λ v. int_le v.y p.y ≡ true) far (λ v out. is_le v.y p.y (omega (arith, ints, not_le_of (pos (16 * n.top) -ℤ pos 8) v.y out, at.top)))))

    left-chord : box_reaches view box (limit_of n Left) Left ≡ false → is_covered chain p ≡ crosses_at_or_left p (edge_between (point from, point (chain_end from rest)))
    left-chord far =
        left p (point from) (map point rest)
        (placed Left (λ v. v.x ≤ℤ p.x) far (λ v out. omega (arith, ints, not_le_of (pos (16 * n.left) -ℤ pos 8) v.x out, at.left)))
        ∙ ap (λ (end : DevicePoint). crosses_at_or_left p (edge_between (point from, end))) (end-placed view from rest)

  -- a block right of the pixels, one below them and one above them
  pub right-skipped : not (box_reaches view box (limit_of n Right) Right) ≡ true → CoverAlike n [] chain
  right-skipped far = record { same = λ i j at. sym (right-none i j at (from-not _ far)) }

  pub bottom-skipped : not (box_reaches view box (limit_of n Bottom) Bottom) ≡ true → CoverAlike n [] chain
  bottom-skipped far = record { same = λ i j at. sym (bottom-none i j at (from-not _ far)) }

  pub top-skipped : not (box_reaches view box (limit_of n Top) Top) ≡ true → CoverAlike n [] chain
  top-skipped far = record { same = λ i j at. sym (top-none i j at (from-not _ far)) }

  -- a block left of them
  pub by-chord : not (box_reaches view box (limit_of n Left) Left) ≡ true → CoverAlike n (edge_between (point from, point (chain_end from rest)) ∷ []) chain
  by-chord far = record {
    same = λ i j at.
        covered-one (edge_between (point from, point (chain_end from rest))) (pixel_centre (pos i) (pos j)) ∙ sym (left-chord i j at (from-not _ far));
  }
