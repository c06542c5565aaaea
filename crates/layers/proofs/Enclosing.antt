-- The box of a feature contains all that lies between its points.
use Rattle.std.proofs.Common.{◌≡◌, List, [], ◌∷◌, fold, refl, arith, ⊎_elim}
use Rattle.std.proofs.lemmas.Int.{ints}
use Rattle.std.proofs.lemmas.List.Elements.{Contains-append_cases, Contains-append_right}
use Rattle.std.specs.List.{Contains, flat_map}
use Rattle.geom.specs.World.{Area, Place, HasPlace}
use Rattle.mapdefs.specs.declared.feature.FeatureFields.{FeatureFields}
use Rattle.mapdefs.specs.Near.{LiesInBoxOf, points_of}
use Rattle.mapdefs.proofs.BlockBoxes.{IsWider, many-wider, one-has, wider-has, wider-on, wider-same}
use Rattle.mapdefs.proofs.Containing.{first_or}
use Rattle.mapdefs.specs.Blocks.{nowhere, with_place}
use Rattle.layers.specs.Boxes.{box_of, with_parts}

-- an element of many lists together is one of one of them
pub flat-contains : {X A : Type 0} (f : X → List A) (xs : List X) (a : A) → Contains (flat_map f xs) a → (x : X) × Contains xs x × Contains (f x) a
flat-contains f [] a c = absurd (omega (arith, c.1))
flat-contains {X} {A} f (x ∷ xs) a c = ⊎_elim
    (λ (d : Contains (f x) a). (x, (0, omega arith, refl), d))
    (λ (d : Contains (flat_map f xs) a). let (y, e, g) = flat-contains f xs a d in (y, Contains-append_right (x ∷ []) xs y e, g))
    (Contains-append_cases (f x) (flat_map f xs) a c)

-- a box that is joined with many places contains each of them
many-has : (area : Area) (points : List Place) (q : Place) → Contains points q → HasPlace (fold with_place area points) q
many-has area [] q c = absurd (omega (arith, c.1))
many-has area (p ∷ points) q c = ⊎_elim
    (λ (e : p ≡ q). wider-has (fold with_place (with_place area p) points) (with_place area p) q (many-wider (with_place area p) points) (rw (← e) (one-has area p)))
    (λ (d : Contains points q). many-has (with_place area p) points q d)
    (first_or p q points c)

-- and many parts
parts-wider : (area : Area) (parts : List (List Place)) → IsWider (with_parts area parts) area
parts-wider area [] = wider-same area
parts-wider area (part ∷ parts) = wider-on (with_parts (fold with_place area part) parts) (fold with_place area part) area (parts-wider (fold with_place area part) parts) (many-wider area part)

parts-have : (area : Area) (parts : List (List Place)) (part : List Place) (q : Place) → Contains parts part → Contains part q → HasPlace (with_parts area parts) q
parts-have area [] part q c d = absurd (omega (arith, c.1))
parts-have area (one ∷ parts) part q c d = ⊎_elim
    (λ (e : one ≡ part).
    let d' : Contains one q = rw e d in
    wider-has (with_parts (fold with_place area one) parts) (fold with_place area one) q (parts-wider (fold with_place area one) parts) (many-has area one q d'))
    (λ (f : Contains parts part). parts-have (fold with_place area one) parts part q f d)
    (first_or one part parts c)

-- each point of a feature lies in its box
point-in : (feature : FeatureFields) (q : Place) → Contains (points_of feature) q → HasPlace (box_of feature) q
point-in feature q c = let (part, d, e) = flat-contains (λ (p : List Place). p) feature.parts q c in parts-have nowhere feature.parts part q d e

-- and so does what lies between them
pub box-has : (feature : FeatureFields) (place : Place) → LiesInBoxOf (points_of feature) place → HasPlace (box_of feature) place
box-has feature place lies =
    let (kw, w, hw, ew, pw) = lies.west in
    let (ke, e, he, ee, pe) = lies.east in
    let (ks, s, hs, es, ps) = lies.south in
    let (kn, n, hn, en, pn) = lies.north in
    let a = point-in feature w (kw, hw, ew) in
    let b = point-in feature e (ke, he, ee) in
    let c = point-in feature s (ks, hs, es) in
    let d = point-in feature n (kn, hn, en) in
    record {
      west = omega (arith, ints, a.west, pw);
      east = omega (arith, ints, b.east, pe);
      south = omega (arith, ints, c.south, ps);
      north = omega (arith, ints, d.north, pn);
    }
