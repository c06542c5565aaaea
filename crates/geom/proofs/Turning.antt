-- Edges and rings that go the other way, and rings that begin elsewhere.
use Rattle.std.proofs.Common.{◌≡◌, ◌∙◌, ℕ, ◌+◌, Bool, true, false, not, ◌&&◌, if◌then◌else◌, cond, List, [], ◌∷◌, ◌++◌, reverse, append_assoc, append-nil, refl, sym, ap, arith}
use Rattle.std.proofs.lemmas.Int.{ints}
use Rattle.std.proofs.lemmas.List.{reverse-append}
use Rattle.std.proofs.lemmas.List.Sums.{sum_by-append, sum_by-cons}
use Rattle.std.specs.List.{count_by}
use Rattle.std.specs.Prelude.{int_le}
use Rattle.geom.specs.Device.{DevicePoint}
use Rattle.geom.specs.Edge.{EdgeEnds, crosses_at_or_left, meets_at_or_left}
use Rattle.geom.specs.EvenOdd.{ring_edges}
use Rattle.geom.specs.Laws.{turned}
use Rattle.geom.proofs.Products.{le_of, not_le_of}
use Rattle.geom.proofs.Rings.{closing_edges, ring_edges-closing}

-- an edge crosses the same points whichever way it goes
pub turned-crosses : (e : EdgeEnds) (p : DevicePoint) → crosses_at_or_left p (turned e) ≡ crosses_at_or_left p e
turned-crosses e p = go (int_le e.from.y p.y) (int_le e.to.y p.y) refl refl
  where
    -- the same one of two ends with different heights is the low end both ways
    same : (a b : Bool) → int_le e.from.y e.to.y ≡ a → int_le e.to.y e.from.y ≡ b → b ≡ not a → meets_at_or_left p (turned e) ≡ meets_at_or_left p e
    same true false f g h = rw (f, g)
    same false true f g h = rw (f, g)
    same true true f g h = absurd (cc)
    same false false f g h = absurd (cc)

    apart : (a b : Bool) → int_le e.from.y e.to.y ≡ a → int_le e.to.y e.from.y ≡ b → ((e.from.y ≡ e.to.y) → ⊥) → b ≡ not a
    apart true true f g h = absurd (h (omega (arith, ints, le_of e.from.y e.to.y f, le_of e.to.y e.from.y g)))
    apart true false f g h = refl
    apart false true f g h = refl
    apart false false f g h = absurd (omega (arith, ints, not_le_of e.from.y e.to.y f, not_le_of e.to.y e.from.y g))

    both : ((e.from.y ≡ e.to.y) → ⊥) → meets_at_or_left p (turned e) ≡ meets_at_or_left p e
    both h = same (int_le e.from.y e.to.y) (int_le e.to.y e.from.y) refl refl (apart (int_le e.from.y e.to.y) (int_le e.to.y e.from.y) refl refl h)

    go : (s t : Bool) → int_le e.from.y p.y ≡ s → int_le e.to.y p.y ≡ t →
        ((if t then not s else s) && meets_at_or_left p (turned e)) ≡ ((if s then not t else t) && meets_at_or_left p e)
    go true true f g = refl
    go false false f g = refl
    go true false f g = both (λ h. differ f g h)
      where
        differ : int_le e.from.y p.y ≡ true → int_le e.to.y p.y ≡ false → (e.from.y ≡ e.to.y) → ⊥
        differ f g h = omega (arith, ints, le_of e.from.y p.y f, not_le_of e.to.y p.y g)
    go false true f g = both (λ h. differ f g h)
      where
        differ : int_le e.from.y p.y ≡ false → int_le e.to.y p.y ≡ true → (e.from.y ≡ e.to.y) → ⊥
        differ f g h = omega (arith, ints, not_le_of e.from.y p.y f, le_of e.to.y p.y g)

-- how many of the edges cross the point's height at it or left of it
abbrev crossings : DevicePoint → List EdgeEnds → ℕ
crossings p edges = count_by (crosses_at_or_left p) edges

-- what one edge adds to them
abbrev share : DevicePoint → EdgeEnds → ℕ
share p e = cond {A = ℕ} (crosses_at_or_left p e) 1 0

pub crossings-cons : (p : DevicePoint) (e : EdgeEnds) (edges : List EdgeEnds) → crossings p (e ∷ edges) ≡ share p e + crossings p edges
crossings-cons p e edges = sum_by-cons (share p) e edges

pub crossings-append : (p : DevicePoint) (xs ys : List EdgeEnds) → crossings p (xs ++ ys) ≡ crossings p xs + crossings p ys
crossings-append p xs ys = sum_by-append (share p) xs ys

pub share-turned : (p : DevicePoint) (e : EdgeEnds) → share p (turned e) ≡ share p e
share-turned p e = ap (λ (b : Bool). cond {A = ℕ} b 1 0) (turned-crosses e p)

-- the edges back to y over one more vertex are those back to that vertex, and the edge from it
closing-more : (x y from : DevicePoint) (rest : List DevicePoint) →
    closing_edges y from (rest ++ x ∷ []) ≡ closing_edges x from rest ++ record { from = x; to = y } ∷ []
closing-more x y from [] = refl
closing-more x y from (to ∷ rest) = ap (λ more. record { from = from; to = to } ∷ more) (closing-more x y to rest)

-- one more edge after others
crossings-more : (p : DevicePoint) (edges : List EdgeEnds) (e : EdgeEnds) → crossings p (edges ++ e ∷ []) ≡ crossings p edges + share p e
crossings-more p edges e = crossings-append p edges (e ∷ []) ∙ ap (λ n. crossings p edges + n) (crossings-cons p e [] ∙ alone (share p e))
  where
    alone : (n : ℕ) → n + 0 ≡ n
    alone n = omega arith

-- a ring that begins at its second vertex is crossed as often
crossings-next : (p x : DevicePoint) (rest : List DevicePoint) → crossings p (ring_edges (rest ++ x ∷ [])) ≡ crossings p (ring_edges (x ∷ rest))
crossings-next p x [] = refl
crossings-next p x (y ∷ ys) =
    ap (crossings p) (ring_edges-closing ((y ∷ ys) ++ x ∷ []) y (ys ++ x ∷ []) refl ∙ closing-more x y y ys)
    ∙ (crossings-more p (closing_edges x y ys) (record { from = x; to = y })
    ∙ (turn (crossings p (closing_edges x y ys)) (share p (record { from = x; to = y }))
    ∙ (sym (crossings-cons p (record { from = x; to = y }) (closing_edges x y ys))
    ∙ ap (crossings p) (sym (ring_edges-closing (x ∷ y ∷ ys) x (y ∷ ys) refl)))))
  where
    turn : (m n : ℕ) → m + n ≡ n + m
    turn m n = omega arith

-- and so is one that begins at any other
pub crossings-begin : (p : DevicePoint) (front back : List DevicePoint) → crossings p (ring_edges (back ++ front)) ≡ crossings p (ring_edges (front ++ back))
crossings-begin p [] back = ap (λ ring. crossings p (ring_edges ring)) (append-nil back)
crossings-begin p (x ∷ front) back =
    ap (λ ring. crossings p (ring_edges ring)) (sym (append_assoc back (x ∷ []) front))
    ∙ (crossings-begin p front (back ++ x ∷ [])
    ∙ (ap (λ ring. crossings p (ring_edges ring)) (sym (append_assoc front back (x ∷ []))) ∙ crossings-next p x (front ++ back)))

-- the way back over the same vertices is crossed as often
crossings-back : (p a b : DevicePoint) (rest : List DevicePoint) → crossings p (closing_edges b a (reverse rest)) ≡ crossings p (closing_edges a b rest)
crossings-back p a b [] = crossings-cons p (record { from = a; to = b }) [] ∙ (ap (λ n. n + 0) (share-turned p (record { from = b; to = a })) ∙ sym (crossings-cons p (record { from = b; to = a }) []))
crossings-back p a b (y ∷ ys) =
    ap (λ r. crossings p (closing_edges b a r)) (reverse-append (y ∷ []) ys)
    ∙ (ap (crossings p) (closing-more y b a (reverse ys))
    ∙ (crossings-more p (closing_edges y a (reverse ys)) (record { from = y; to = b })
    ∙ (add (crossings p (closing_edges y a (reverse ys))) (crossings p (closing_edges a y ys)) (share p (record { from = y; to = b })) (share p (record { from = b; to = y }))
    (crossings-back p a y ys) (share-turned p (record { from = b; to = y }))
    ∙ sym (crossings-cons p (record { from = b; to = y }) (closing_edges a y ys)))))
  where
    add : (m n s t : ℕ) → m ≡ n → s ≡ t → m + s ≡ t + n
    add m n s t e f = omega (arith, e, f)

-- a ring that goes the other way round is crossed as often
pub crossings-turned : (p : DevicePoint) (ring : List DevicePoint) → crossings p (ring_edges (reverse ring)) ≡ crossings p (ring_edges ring)
crossings-turned p [] = refl
crossings-turned p (x ∷ xs) =
    ap (λ ring. crossings p (ring_edges ring)) (reverse-append (x ∷ []) xs)
    ∙ (crossings-next p x (reverse xs)
    ∙ (ap (crossings p) (ring_edges-closing (x ∷ reverse xs) x (reverse xs) refl)
    ∙ (crossings-back p x x xs ∙ ap (crossings p) (sym (ring_edges-closing (x ∷ xs) x xs refl)))))
