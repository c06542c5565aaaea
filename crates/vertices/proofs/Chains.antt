-- Chains of edges, and the edges that may replace them.
use Rattle.std.proofs.Common.{◌≡◌, ◌∙◌, ℕ, ◌+◌, Bool, true, false, not, if◌then◌else◌, cond, List, [], ◌∷◌, refl, sym, ap}
use Rattle.std.proofs.lemmas.List.Sums.{sum_by-cons}
use Rattle.std.specs.List.{AllByRecursion, count_by}
use Rattle.std.specs.Prelude.{int_le}
use lib.Signed.{◌<ℤ◌, ◌≤ℤ◌}
use Rattle.geom.specs.Device.{DevicePoint}
use Rattle.geom.specs.Edge.{EdgeEnds, low_end, high_end, crosses_height, crosses_at_or_left}
use Rattle.geom.specs.EvenOdd.{is_covered, is_odd}
use Rattle.geom.specs.Laws.{is_one_of}
use Rattle.clip.proofs.Sides.{left-crosses, right-crosses}
use Rattle.vertices.specs.Chain.{chain_edges, chain_end, chord}
use Rattle.geom.proofs.Together.{odd-add}

-- crossings of two lists of edges
pub odd-one : (b : Bool) → is_odd (cond {A = ℕ} b 1 0) ≡ b
odd-one true = refl
odd-one false = refl

-- what one edge adds to the crossings
abbrev pub share : DevicePoint → EdgeEnds → ℕ
share p e = cond {A = ℕ} (crosses_at_or_left p e) 1 0

pub crossings-cons : (p : DevicePoint) (e : EdgeEnds) (es : List EdgeEnds) → count_by (crosses_at_or_left p) (e ∷ es) ≡ share p e + count_by (crosses_at_or_left p) es
crossings-cons p e es = sum_by-cons (share p) e es

-- an edge that isn't crossed adds none
none-more : (p : DevicePoint) (e : EdgeEnds) (es : List EdgeEnds) → crosses_at_or_left p e ≡ false → count_by (crosses_at_or_left p) es ≡ 0 →
    count_by (crosses_at_or_left p) (e ∷ es) ≡ 0
none-more p e es missed none = crossings-cons p e es ∙ rw (missed, none) refl

-- an edge whose ends lie on one side of a height
beside-edge : (p from to : DevicePoint) (side : Bool) → int_le from.y p.y ≡ side → int_le to.y p.y ≡ side →
    crosses_at_or_left p (record { from = from; to = to }) ≡ false
beside-edge p from to true a b = rw (a, b) refl
beside-edge p from to false a b = rw (a, b) refl

-- a chain whose vertices all lie below a height, or all at it or above it, has no crossing there
pub beside : (p from : DevicePoint) (rest : List DevicePoint) (side : Bool) → AllByRecursion (λ v. int_le v.y p.y ≡ side) (from ∷ rest) →
    count_by (crosses_at_or_left p) (chain_edges from rest) ≡ 0
beside p from [] side all = refl
beside p from (to ∷ rest) side all =
    none-more p (record { from = from; to = to }) (chain_edges to rest) (beside-edge p from to side all.0 all.1.0) (beside p to rest side all.1)

-- which end of an edge is the low one makes no difference to a fact of both
pub low-has : (P : DevicePoint → Type 0) (e : EdgeEnds) → P e.from → P e.to → P (low_end e)
low-has P e a b = go (int_le e.from.y e.to.y)
  where
    go : (t : Bool) → P (if t then e.from else e.to)
    go true = a
    go false = b

pub high-has : (P : DevicePoint → Type 0) (e : EdgeEnds) → P e.from → P e.to → P (high_end e)
high-has P e a b = go (int_le e.from.y e.to.y)
  where
    go : (t : Bool) → P (if t then e.to else e.from)
    go true = b
    go false = a

-- a chain whose vertices all lie right of a point has no crossing at it or left of it
pub right : (p from : DevicePoint) (rest : List DevicePoint) → AllByRecursion (λ v. p.x <ℤ v.x) (from ∷ rest) →
    count_by (crosses_at_or_left p) (chain_edges from rest) ≡ 0
right p from [] all = refl
right p from (to ∷ rest) all =
    let e : EdgeEnds = record { from = from; to = to } in
    none-more p e (chain_edges to rest)
    (right-crosses e p (low-has (λ v. p.x <ℤ v.x) e all.0 all.1.0) (high-has (λ v. p.x <ℤ v.x) e all.0 all.1.0))
    (right p to rest all.1)

-- an edge whose ends lie at a point's x or left of it
left-edge : (p from to : DevicePoint) → from.x ≤ℤ p.x → to.x ≤ℤ p.x →
    crosses_at_or_left p (record { from = from; to = to }) ≡ crosses_height (record { from = from; to = to }) p.y
left-edge p from to a b =
    let e : EdgeEnds = record { from = from; to = to } in
    left-crosses e p (low-has (λ v. v.x ≤ℤ p.x) e a b) (high-has (λ v. v.x ≤ℤ p.x) e a b)

-- an edge on, and one from there on: a height is crossed by both or none where the edge from start to end doesn't cross it
heights-join : (a b c : Bool) → is_one_of (if a then not b else b) (if b then not c else c) ≡ (if a then not c else c)
heights-join true true true = refl
heights-join true true false = refl
heights-join true false true = refl
heights-join true false false = refl
heights-join false true true = refl
heights-join false true false = refl
heights-join false false true = refl
heights-join false false false = refl

-- an edge back to where it began crosses no height
no-way : (t : Bool) → (if t then not t else t) ≡ false
no-way true = refl
no-way false = refl

-- the last vertex of a chain has what all have
pub end-has : {X : Type 0} (P : X → Type 0) (from : X) (rest : List X) → AllByRecursion P (from ∷ rest) → P (chain_end from rest)
end-has P from [] all = all.0
end-has P from (to ∷ rest) all = end-has P to rest all.1

-- a chain whose vertices all lie at a point's x or left of it has an odd number of crossings exactly where its chord has one
pub left : (p from : DevicePoint) (rest : List DevicePoint) → AllByRecursion (λ v. v.x ≤ℤ p.x) (from ∷ rest) →
    is_covered (chain_edges from rest) p ≡ crosses_at_or_left p (chord from rest)
left p from [] all = sym (left-edge p from from all.0 all.0 ∙ no-way (int_le from.y p.y))
left p from (to ∷ rest) all =
    let e : EdgeEnds = record { from = from; to = to } in
    let last : (chain_end to rest).x ≤ℤ p.x = end-has (λ v. v.x ≤ℤ p.x) to rest all.1 in
    ap is_odd (crossings-cons p e (chain_edges to rest))
    ∙ (odd-add (share p e) (count_by (crosses_at_or_left p) (chain_edges to rest))
    ∙ (ap (λ b. is_one_of b (is_covered (chain_edges to rest) p)) (odd-one (crosses_at_or_left p e) ∙ left-edge p from to all.0 all.1.0)
    ∙ (ap (λ b. is_one_of (crosses_height e p.y) b) (left p to rest all.1 ∙ left-edge p to (chain_end to rest) all.1.0 last)
    ∙ (heights-join (int_le from.y p.y) (int_le to.y p.y) (int_le (chain_end to rest).y p.y)
    ∙ sym (left-edge p from (chain_end to rest) all.0 last)))))
