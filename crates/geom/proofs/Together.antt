-- Rings and polygons taken together.
use Rattle.std.proofs.Common.{◌≡◌, ◌∙◌, ℕ, ◌+◌, Bool, true, false, cond, List, ◌∷◌, ◌++◌, reverse, refl, sym, ap, arith}
use Rattle.std.proofs.lemmas.Grind.{flat_map-append}
use Rattle.std.specs.List.{count_by}
use Rattle.geom.specs.Device.{DevicePoint}
use Rattle.geom.specs.Edge.{EdgeEnds, crosses_at_or_left}
use Rattle.geom.specs.EvenOdd.{edges, is_covered, is_inside, is_odd, ring_edges}
use Rattle.geom.specs.Laws.{is_one_of, turned}
use Rattle.geom.proofs.Turning.{crossings-append, crossings-begin, crossings-cons, crossings-turned, share-turned}

-- the edges of rings with one among them
edges-among : (before after : List (List DevicePoint)) (ring : List DevicePoint) → edges (before ++ ring ∷ after) ≡ edges before ++ (ring_edges ring ++ edges after)
edges-among before after ring = flat_map-append ring_edges before (ring ∷ after)

-- a ring in place of another, which is crossed as often
inside-same : (before after : List (List DevicePoint)) (one other : List DevicePoint) (p : DevicePoint) →
    count_by (crosses_at_or_left p) (ring_edges one) ≡ count_by (crosses_at_or_left p) (ring_edges other) →
    is_inside (before ++ one ∷ after) p ≡ is_inside (before ++ other ∷ after) p
inside-same before after one other p same =
    ap is_odd (count one ∙ (ap (λ n. count_by (crosses_at_or_left p) (edges before) + (n + count_by (crosses_at_or_left p) (edges after))) same ∙ sym (count other)))
  where
    count : (ring : List DevicePoint) → count_by (crosses_at_or_left p) (edges (before ++ ring ∷ after))
        ≡ count_by (crosses_at_or_left p) (edges before) + (count_by (crosses_at_or_left p) (ring_edges ring) + count_by (crosses_at_or_left p) (edges after))
    count ring =
        ap (count_by (crosses_at_or_left p)) (edges-among before after ring)
        ∙ (crossings-append p (edges before) (ring_edges ring ++ edges after)
        ∙ ap (λ n. count_by (crosses_at_or_left p) (edges before) + n) (crossings-append p (ring_edges ring) (edges after)))

pub inside-begin : (before after : List (List DevicePoint)) (front back : List DevicePoint) (p : DevicePoint) →
    is_inside (before ++ (back ++ front) ∷ after) p ≡ is_inside (before ++ (front ++ back) ∷ after) p
inside-begin before after front back p = inside-same before after (back ++ front) (front ++ back) p (crossings-begin p front back)

pub inside-turned : (before after : List (List DevicePoint)) (ring : List DevicePoint) (p : DevicePoint) →
    is_inside (before ++ reverse ring ∷ after) p ≡ is_inside (before ++ ring ∷ after) p
inside-turned before after ring p = inside-same before after (reverse ring) ring p (crossings-turned p ring)

-- a sum is odd exactly where one of its parts is and the other isn't
pub odd-add : (m n : ℕ) → is_odd (m + n) ≡ is_one_of (is_odd m) (is_odd n)
odd-add m n = grind arith

pub inside-together : (one other : List (List DevicePoint)) (p : DevicePoint) → is_inside (one ++ other) p ≡ is_one_of (is_inside one p) (is_inside other p)
inside-together one other p =
    ap is_odd (ap (count_by (crosses_at_or_left p)) (flat_map-append ring_edges one other) ∙ crossings-append p (edges one) (edges other))
    ∙ odd-add (count_by (crosses_at_or_left p) (edges one)) (count_by (crosses_at_or_left p) (edges other))

-- what is counted twice changes no parity
odd-twice : (m n : ℕ) (b : Bool) → m ≡ n + (cond {A = ℕ} b 1 0 + cond {A = ℕ} b 1 0) → is_odd m ≡ is_odd n
odd-twice m n true e = rw e (grind arith)
odd-twice m n false e = let same : m ≡ n = omega (arith, e) in rw same refl

pub shared-cancel : (e : EdgeEnds) (before after before' after' : List EdgeEnds) (p : DevicePoint) →
    is_covered ((before ++ e ∷ after) ++ (before' ++ turned e ∷ after')) p ≡ is_covered ((before ++ after) ++ (before' ++ after')) p
shared-cancel e before after before' after' p =
    odd-twice (count_by (crosses_at_or_left p) ((before ++ e ∷ after) ++ (before' ++ turned e ∷ after'))) (count_by (crosses_at_or_left p) ((before ++ after) ++ (before' ++ after')))
    (crosses_at_or_left p e)
    (omega (
      arith,
      crossings-append p (before ++ e ∷ after) (before' ++ turned e ∷ after'),
      crossings-append p before (e ∷ after),
      crossings-append p before' (turned e ∷ after'),
      crossings-cons p e after,
      crossings-cons p (turned e) after',
      share-turned p e,
      crossings-append p (before ++ after) (before' ++ after'),
      crossings-append p before after,
      crossings-append p before' after',
    ))
