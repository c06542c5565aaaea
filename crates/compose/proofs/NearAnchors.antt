-- A feature whose anchor lies in the picture has its box in each window of it.
use Rattle.std.proofs.Common.{◌≡◌, zero, suc, ℕ, ◌/◌, ◌⊎◌, inl, inr, Bool, true, false, List, [], ◌∷◌, map, Option, None, Some, length, refl, sym, arith}
use Rattle.std.proofs.lemmas.Bool.{and_parts}
use Rattle.std.proofs.lemmas.Int.{ints, fold-int_max_bounds, fold-int_max_reached, fold-int_min_bounds, fold-int_min_reached}
use Rattle.std.proofs.lemmas.Option.{slice_get_within, get_or_from_slice_get, same_Some}
use Rattle.std.specs.Int.{int_max, int_min}
use Rattle.std.specs.List.{Any, Contains, flat_map, fold, slice_get}
use Rattle.std.specs.Option.{option_and_then}
use Rattle.std.specs.Prelude.{◌&&◌, int_le, int_lt}
use lib.IntN.{ℤ, pos, ◌+ℤ◌}
use lib.Signed.{◌≤ℤ◌}
use Rattle.geom.proofs.Quotients.{quotient_parts}
use Rattle.geom.specs.Device.{PixelValue, pixel_of}
use Rattle.geom.specs.World.{Place}
use Rattle.mapdefs.specs.Near.{HasBoxIn, LiesInBoxOf}
use Rattle.mapdefs.specs.declared.layer.Geometry.{Geometry}
use Rattle.mapdefs.specs.declared.layer.Geometry.TheVariants as kind
use Rattle.viewport.proofs.Windows.{window-law}
use Rattle.viewport.specs.View.{IsNear, ViewValue, device_point, window}
use Rattle.compose.specs.Anchor.{AnchorsAreNear, anchor_on, halfway, is_shown, middle, middle_of, shown_pixel}
use Rattle.mapdefs.proofs.Containing.{any-weaker}
use Rattle.vertices.proofs.Finding.{any-one, contains-flat, here, there}

-- a number that belongs to one of some places
has-number : (f : Place → ℤ) (p : Place) (ps : List Place) (r : ℤ) → (r ≡ f p) ⊎ Contains (map f ps) r → Any (λ q. f q ≡ r) (p ∷ ps)
has-number f p ps r (inl e) = any-one (λ q. f q ≡ r) (p ∷ ps) p (here p ps) (sym e)
has-number f p ps r (inr c) =
    let (q, among, e) = mapped f ps r c in any-one (λ q. f q ≡ r) (p ∷ ps) q (there p q ps among) e
  where
    mapped : (f : Place → ℤ) (ps : List Place) (r : ℤ) → Contains (map f ps) r → (q : Place) × Contains ps q × (f q ≡ r)
    mapped f [] r c = absurd (omega (arith, c.1))
    mapped f (q ∷ ps) r (zero, h, e) = (q, here q ps, e)
    mapped f (q ∷ ps) r (suc k, h, e) = let (x, among, same) = mapped f ps r (k, omega (arith, h), e) in (x, there q x ps among, same)

-- the middle lies between the two
halfway-least : (a b : ℤ) → a ≤ℤ b → a ≤ℤ halfway a b
halfway-least a b h = let q = quotient_parts (a +ℤ b) (pos 2) (omega (arith, ints)) in omega (arith, ints, q.0, q.1, h)

halfway-most : (a b : ℤ) → a ≤ℤ b → halfway a b ≤ℤ b
halfway-most a b h = let q = quotient_parts (a +ℤ b) (pos 2) (omega (arith, ints)) in omega (arith, ints, q.0, q.1, h)

-- some place is not beyond the middle on one side, and some place is not beyond it on the other
module _ (f : Place → ℤ) (p : Place) (ps : List Place) where
  abbrev low : ℤ
  low = fold int_min (f p) (map f ps)

  abbrev high : ℤ
  high = fold int_max (f p) (map f ps)

  rising : low ≤ℤ high
  rising = omega (arith, ints, (fold-int_min_bounds (f p) (map f ps) low refl).0, (fold-int_max_bounds (f p) (map f ps) high refl).0)

  before-middle : Any (λ q. f q ≤ℤ middle (f p) (map f ps)) (p ∷ ps)
  before-middle = any-weaker (λ q. f q ≡ low) (λ q. f q ≤ℤ middle (f p) (map f ps)) (p ∷ ps)
      (λ q e. rw e (halfway-least low high rising)) (has-number f p ps low (fold-int_min_reached (f p) (map f ps) low refl))

  after-middle : Any (λ q. middle (f p) (map f ps) ≤ℤ f q) (p ∷ ps)
  after-middle = any-weaker (λ q. f q ≡ high) (λ q. middle (f p) (map f ps) ≤ℤ f q) (p ∷ ps)
      (λ q e. rw e (halfway-most low high rising)) (has-number f p ps high (fold-int_max_reached (f p) (map f ps) high refl))

-- the middle of their box lies in it
middle-lies : (p : Place) (ps : List Place) → LiesInBoxOf (p ∷ ps) (middle_of p ps)
middle-lies p ps = record {
  west = before-middle (λ q. q.x) p ps;
  east = after-middle (λ q. q.x) p ps;
  south = before-middle (λ q. q.y) p ps;
  north = after-middle (λ q. q.y) p ps;
}

-- so does one of the places
vertex-lies : (part : List Place) (k : ℕ) (place : Place) → slice_get part k ≡ Some place → LiesInBoxOf part place
vertex-lies part k place e =
    let among : Contains part place = (k, slice_get_within part k place e, get_or_from_slice_get part k place place e) in
    record {
      west = any-one (λ q. q.x ≤ℤ place.x) part place among (omega (arith, ints));
      east = any-one (λ q. place.x ≤ℤ q.x) part place among (omega (arith, ints));
      south = any-one (λ q. q.y ≤ℤ place.y) part place among (omega (arith, ints));
      north = any-one (λ q. place.y ≤ℤ q.y) part place among (omega (arith, ints));
    }

anchor-lies : (k : Geometry) (part : List Place) (place : Place) → anchor_on k part ≡ Some place → LiesInBoxOf part place
anchor-lies kind.Point part place e = vertex-lies part 0 place e
anchor-lies kind.Line part place e = vertex-lies part (length part / 2) place e
anchor-lies kind.Polygon [] place e = absurd (cc)
anchor-lies kind.Polygon (p ∷ ps) place e = rw (← same_Some (middle_of p ps) place e) (middle-lies p ps)

-- what lies in the box of a part lies in that of all
module _ (parts : List (List Place)) (part : List Place) (among : Contains parts part) where
  any-flat : (P : Place → Type 0) → Any P part → Any P (flat_map (λ part. part) parts)
  any-flat P (k, q, h, e, holds) = any-one P (flat_map (λ part. part) parts) q (contains-flat (λ (part : List Place). part) parts part q among (k, h, e)) holds

  lies-flat : (place : Place) → LiesInBoxOf part place → LiesInBoxOf (flat_map (λ part. part) parts) place
  lies-flat place lies = record {
    west = any-flat (λ q. q.x ≤ℤ place.x) lies.west;
    east = any-flat (λ q. place.x ≤ℤ q.x) lies.east;
    south = any-flat (λ q. q.y ≤ℤ place.y) lies.south;
    north = any-flat (λ q. place.y ≤ℤ q.y) lies.north;
  }

-- a pixel in the picture is near to it, whatever the margin
shown-near : (view : ViewValue) (margin : ℕ) (p : PixelValue) → is_shown view p ≡ true → IsNear view margin p
shown-near view margin p h =
    let columns : Bool = int_le (pos 0) p.i && int_lt p.i (pos view.width) in
    let rows : Bool = int_le (pos 0) p.j && int_lt p.j (pos view.height) in
    let both = and_parts columns rows h in
    let across = and_parts (int_le (pos 0) p.i) (int_lt p.i (pos view.width)) both.0 in
    let down = and_parts (int_le (pos 0) p.j) (int_lt p.j (pos view.height)) both.1 in
    record {
      left = omega (arith, ints, sym across.0);
      right = omega (arith, ints, sym across.1);
      top = omega (arith, ints, sym down.0);
      bottom = omega (arith, ints, sym down.1);
    }

shown : (view : ViewValue) (place : Place) (p : PixelValue) → shown_pixel view place ≡ Some p → is_shown view (pixel_of (device_point view place)) ≡ true
shown view place p e = go (is_shown view (pixel_of (device_point view place))) refl
  where
    go : (b : Bool) → is_shown view (pixel_of (device_point view place)) ≡ b → b ≡ true
    go true is = refl
    go false is = absurd (let none : None ≡ Some p = rw is at e in cc)

pub anchors-near : AnchorsAreNear
anchors-near view margin k feature p limits e = on-parts (slice_get feature.parts 0) refl e
  where
    on-place : (part : List Place) → slice_get feature.parts 0 ≡ Some part → (o : Option Place) → anchor_on k part ≡ o → option_and_then (shown_pixel view) o ≡ Some p →
        HasBoxIn (window view margin) feature
    on-place part is None at e = absurd (cc)
    on-place part is (Some place) at e =
        let among : Contains feature.parts part = (0, slice_get_within feature.parts 0 part is, get_or_from_slice_get feature.parts 0 part part is) in (
          place,
          window-law view margin place limits (shown-near view margin (pixel_of (device_point view place)) (shown view place p e)),
          lies-flat feature.parts part among place (anchor-lies k part place at),
        )

    on-parts : (o : Option (List Place)) → slice_get feature.parts 0 ≡ o → option_and_then (shown_pixel view) (option_and_then (anchor_on k) o) ≡ Some p → HasBoxIn (window view margin) feature
    on-parts None is e = absurd (cc)
    on-parts (Some part) is e = on-place part is (anchor_on k part) refl e
