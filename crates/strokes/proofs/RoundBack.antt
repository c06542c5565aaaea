-- A round line covers the same backwards.
use Rattle.std.proofs.Common.{◌≡◌, ◌∙◌, ℕ, Bool, true, false, ◌||◌, ◌&&◌, List, [], ◌∷◌, ◌++◌, map, refl, sym, ap}
use Rattle.std.proofs.lemmas.Bool.{false≢true, or_left, or_right}
use Rattle.std.proofs.lemmas.List.{reverse-append}
use Rattle.std.specs.List.{list_any}
use Rattle.std.specs.Prelude.{reverse}
use lib.IntN.{ℤ}
use Rattle.geom.specs.Device.{DevicePoint, pixel_centre}
use Rattle.geom.specs.Edge.{EdgeEnds}
use Rattle.strokes.specs.Line.{segment_along}
use Rattle.strokes.specs.Round.{covers_round, has_centre, is_abreast, is_close, is_round, round_segments}
use Rattle.strokes.specs.RoundLaw.{RoundLinesAreSameBack}
use Rattle.strokes.proofs.Parts.{following, round_edges-following}
use Rattle.strokes.proofs.RoundNear.{back-law, disc-law}
use Rattle.strokes.proofs.Rounded.{covers-parts}

-- the segment from one vertex to another covers a point
abbrev step : ℕ → DevicePoint → DevicePoint → DevicePoint → Bool
step w p a b = covers_round w (record { from = a; to = b }) p

-- one of those from a vertex over the following ones does
abbrev covers_from : ℕ → DevicePoint → DevicePoint → List DevicePoint → Bool
covers_from w p from [] = false
covers_from w p from (to ∷ rest) = step w p from to || covers_from w p to rest

-- one of a part's does, or its first vertex alone
abbrev covers_part : ℕ → DevicePoint → List DevicePoint → Bool
covers_part w p [] = false
covers_part w p (first ∷ rest) = step w p first first || covers_from w p first rest

-- the last vertex
abbrev last_of : DevicePoint → List DevicePoint → DevicePoint
last_of from [] = from
last_of from (to ∷ rest) = last_of to rest

from-is : (w : ℕ) (i j : ℤ) (first from : DevicePoint) (rest : List DevicePoint) →
    list_any (has_centre i j) (map (segment_along w) (following false first from rest)) ≡ covers_from w (pixel_centre i j) from rest
from-is w i j first from [] = refl
from-is w i j first from (to ∷ rest) = ap (λ t. step w (pixel_centre i j) from to || t) (from-is w i j first to rest)

part-is : (w : ℕ) (i j : ℤ) (part : List DevicePoint) → list_any (has_centre i j) (round_segments false w part) ≡ covers_part w (pixel_centre i j) part
part-is w i j [] = refl
part-is w i j (first ∷ rest) =
    ap (λ (edges : List EdgeEnds). list_any (has_centre i j) (map (segment_along w) edges)) (round_edges-following false (first ∷ rest) first rest refl)
    ∙ ap (λ t. step w (pixel_centre i j) first first || t) (from-is w i j first first rest)

or-turn : (s : Bool) → (s || false) ≡ s
or-turn true = refl
or-turn false = refl

or-group : (s t u : Bool) → (s || (t || u)) ≡ ((s || t) || u)
or-group true t u = refl
or-group false t u = refl

from-append : (w : ℕ) (p from : DevicePoint) (rest : List DevicePoint) (y : DevicePoint) →
    covers_from w p from (rest ++ y ∷ []) ≡ (covers_from w p from rest || step w p (last_of from rest) y)
from-append w p from [] y = or-turn (step w p from y)
from-append w p from (to ∷ rest) y =
    ap (λ t. step w p from to || t) (from-append w p to rest y) ∙ or-group (step w p from to) (covers_from w p to rest) (step w p (last_of to rest) y)

last-append : (from : DevicePoint) (rest : List DevicePoint) (y : DevicePoint) → last_of from (rest ++ y ∷ []) ≡ y
last-append from [] y = refl
last-append from (to ∷ rest) y = last-append to rest y

-- one vertex more is one segment more
part-append : (w : ℕ) (p : DevicePoint) (part : List DevicePoint) (y x : DevicePoint) →
    covers_part w p ((part ++ y ∷ []) ++ x ∷ []) ≡ (covers_part w p (part ++ y ∷ []) || step w p y x)
part-append w p [] y x = ap (λ t. step w p y y || t) (or-turn (step w p y x)) ∙ sym (ap (λ t. t || step w p y x) (or-turn (step w p y y)))
part-append w p (z ∷ part) y x =
    ap (λ t. step w p z z || t) (from-append w p z (part ++ y ∷ []) x)
    ∙ (ap (λ (last : DevicePoint). step w p z z || (covers_from w p z (part ++ y ∷ []) || step w p last x)) (last-append z part y)
    ∙ or-group (step w p z z) (covers_from w p z (part ++ y ∷ [])) (step w p y x))

-- the disc round an end of a segment is a part of it
first-disc : (w : ℕ) (p a b : DevicePoint) → step w p a a ≡ true → step w p a b ≡ true
first-disc w p a b h =
    let e : EdgeEnds = record { from = a; to = b } in
    covers-parts w e p ∙ or_left (is_round w a p || is_round w b p) (is_abreast e p && is_close w e p) (or_left (is_round w a p) (is_round w b p) (sym (disc-law w a p) ∙ h))

pub second-disc : (w : ℕ) (p a b : DevicePoint) → step w p b b ≡ true → step w p a b ≡ true
second-disc w p a b h =
    let e : EdgeEnds = record { from = a; to = b } in
    covers-parts w e p ∙ or_left (is_round w a p || is_round w b p) (is_abreast e p && is_close w e p) (or_right (is_round w a p) (is_round w b p) (sym (disc-law w b p) ∙ h))

either-end : (d e s f : Bool) → (d ≡ true → s ≡ true) → (e ≡ true → s ≡ true) → ((e || f) || s) ≡ (d || (s || f))
either-end true true true f p q = refl
either-end true false true true p q = refl
either-end true false true false p q = refl
either-end false true true f p q = refl
either-end false false true true p q = refl
either-end false false true false p q = refl
either-end true e false f p q = absurd (false≢true (p refl))
either-end false true false f p q = absurd (false≢true (q refl))
either-end false false false true p q = refl
either-end false false false false p q = refl

part-back : (w : ℕ) (p : DevicePoint) (part : List DevicePoint) → covers_part w p (reverse part) ≡ covers_part w p part
part-back w p [] = refl
part-back w p (x ∷ []) = refl
part-back w p (x ∷ y ∷ rest) =
    ap (covers_part w p) (reverse-append (x ∷ []) (y ∷ rest) ∙ ap (λ (ys : List DevicePoint). ys ++ x ∷ []) (reverse-append (y ∷ []) rest))
    ∙ (part-append w p (reverse rest) y x
    ∙ (ap (λ (ys : List DevicePoint). covers_part w p ys || step w p y x) (sym (reverse-append (y ∷ []) rest))
    ∙ (ap (λ t. t || step w p y x) (part-back w p (y ∷ rest))
    ∙ (ap (λ t. (step w p y y || covers_from w p y rest) || t) (back-law w x y p)
    ∙ either-end (step w p x x) (step w p y y) (step w p x y) (covers_from w p y rest) (first-disc w p x y) (second-disc w p x y)))))

-- the segment from the last vertex of a part to its first covers a point
abbrev closing_covers : ℕ → DevicePoint → List DevicePoint → Bool
closing_covers w p [] = false
closing_covers w p (first ∷ rest) = step w p (last_of first rest) first

closed-from : (w : ℕ) (i j : ℤ) (first from : DevicePoint) (rest : List DevicePoint) →
    list_any (has_centre i j) (map (segment_along w) (following true first from rest))
    ≡ (covers_from w (pixel_centre i j) from rest || step w (pixel_centre i j) (last_of from rest) first)
closed-from w i j first from [] = or-turn (step w (pixel_centre i j) from first)
closed-from w i j first from (to ∷ rest) =
    ap (λ t. step w (pixel_centre i j) from to || t) (closed-from w i j first to rest)
    ∙ or-group (step w (pixel_centre i j) from to) (covers_from w (pixel_centre i j) to rest) (step w (pixel_centre i j) (last_of to rest) first)

-- a closed line covers what the open one does, and that segment
closed-is : (w : ℕ) (i j : ℤ) (part : List DevicePoint) →
    list_any (has_centre i j) (round_segments true w part) ≡ (covers_part w (pixel_centre i j) part || closing_covers w (pixel_centre i j) part)
closed-is w i j [] = refl
closed-is w i j (first ∷ rest) =
    let p = pixel_centre i j in
    ap (λ (edges : List EdgeEnds). list_any (has_centre i j) (map (segment_along w) edges)) (round_edges-following true (first ∷ rest) first rest refl)
    ∙ (ap (λ t. step w p first first || t) (closed-from w i j first first rest)
    ∙ or-group (step w p first first) (covers_from w p first rest) (step w p (last_of first rest) first))

-- backwards a part begins with its last vertex, and ends with its first
reverse-ends : (first : DevicePoint) (rest : List DevicePoint) →
    (tail : List DevicePoint) × (reverse (first ∷ rest) ≡ last_of first rest ∷ tail) × (last_of (last_of first rest) tail ≡ first)
reverse-ends first [] = ([], refl, refl)
reverse-ends first (next ∷ rest) =
    let (tail, e, f) = reverse-ends next rest in
    (tail ++ first ∷ [], reverse-append (first ∷ []) (next ∷ rest) ∙ ap (λ (ys : List DevicePoint). ys ++ first ∷ []) e, last-append (last_of next rest) tail first)

closing-back : (w : ℕ) (p : DevicePoint) (part : List DevicePoint) → closing_covers w p (reverse part) ≡ closing_covers w p part
closing-back w p [] = refl
closing-back w p (first ∷ rest) =
    let (tail, e, f) = reverse-ends first rest in
    ap (closing_covers w p) e ∙ (ap (λ (last : DevicePoint). step w p last (last_of first rest)) f ∙ back-law w (last_of first rest) first p)

pub line-back : RoundLinesAreSameBack
line-back false w part i j = part-is w i j (reverse part) ∙ (part-back w (pixel_centre i j) part ∙ sym (part-is w i j part))
line-back true w part i j =
    let p = pixel_centre i j in
    closed-is w i j (reverse part)
    ∙ (ap (λ t. t || closing_covers w p (reverse part)) (part-back w p part)
    ∙ (ap (λ t. covers_part w p part || t) (closing-back w p part) ∙ sym (closed-is w i j part)))
