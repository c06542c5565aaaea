-- The edges of a chain are crossed as often one way as the other, so that two rings with it cover what their outline covers.
use Rattle.std.proofs.Common.{◌≡◌, ◌∙◌, ℕ, ◌+◌, ◌*◌, List, [], ◌∷◌, ◌++◌, append-nil, reverse, refl, sym, ap, arith}
use Rattle.std.proofs.lemmas.List.{reverse-append}
use Rattle.std.specs.List.{count_by}
use Rattle.geom.specs.Device.{DevicePoint}
use Rattle.geom.specs.Edge.{EdgeEnds, crosses_at_or_left}
use Rattle.geom.specs.EvenOdd.{is_odd, ring_edges}
use Rattle.geom.proofs.Rings.{closing_edges, ring_edges-closing}
use Rattle.geom.proofs.Turning.{crossings-append, crossings-cons, crossings-turned, share-turned}
use Rattle.seams.specs.Seams.{SharedChainsCancel, along, back, outline}

abbrev crossings : DevicePoint → List EdgeEnds → ℕ
crossings p edges = count_by (crosses_at_or_left p) edges

-- edges over some vertices and one more, and on from that
closing-on : (end from at : DevicePoint) (xs ys : List DevicePoint) → closing_edges end from (xs ++ at ∷ ys) ≡ closing_edges at from xs ++ closing_edges end at ys
closing-on end from at [] ys = refl
closing-on end from at (x ∷ xs) ys = ap (λ more. record { from = from; to = x } ∷ more) (closing-on end x at xs ys)

-- the crossings of a ring, up to one of its vertices and on from that
crossings-ring : (p first at : DevicePoint) (xs ys : List DevicePoint) →
    crossings p (ring_edges (first ∷ xs ++ at ∷ ys)) ≡ crossings p (closing_edges at first xs) + crossings p (closing_edges first at ys)
crossings-ring p first at xs ys =
    ap (crossings p) (ring_edges-closing (first ∷ xs ++ at ∷ ys) first (xs ++ at ∷ ys) refl ∙ closing-on first first at xs ys)
    ∙ crossings-append p (closing_edges at first xs) (closing_edges first at ys)

-- the way back over the same vertices is crossed as often
crossings-back : (p a b : DevicePoint) (between : List DevicePoint) → crossings p (closing_edges a b (reverse between)) ≡ crossings p (closing_edges b a between)
crossings-back p a b between =
    same (crossings p (closing_edges a b (reverse between))) (crossings p (closing_edges b a between)) (crossings p (closing_edges b a [])) (crossings p (closing_edges a b []))
    (sym (crossings-ring p b a (reverse between) []) ∙ (ap (λ ring. crossings p (ring_edges ring)) (sym reversed)
    ∙ (crossings-turned p (a ∷ between ++ b ∷ []) ∙ crossings-ring p a b between [])))
    edge
  where
    reversed : reverse (a ∷ between ++ b ∷ []) ≡ b ∷ reverse between ++ a ∷ []
    reversed = reverse-append (a ∷ []) (between ++ b ∷ []) ∙ ap (λ ring. ring ++ a ∷ []) (reverse-append between (b ∷ []))

    edge : crossings p (closing_edges b a []) ≡ crossings p (closing_edges a b [])
    edge =
        crossings-cons p (record { from = a; to = b }) [] ∙ (ap (λ n. n + 0) (sym (share-turned p (record { from = a; to = b })))
        ∙ sym (crossings-cons p (record { from = b; to = a }) []))

    same : (m n s t : ℕ) → m + s ≡ n + t → s ≡ t → m ≡ n
    same m n s t e f = omega (arith, e, f)

-- what is counted twice changes no parity
twice-more : (c m : ℕ) → is_odd (c + m + c) ≡ is_odd m
twice-more c m = ap is_odd (turn c m) ∙ even c m
  where
    turn : (c m : ℕ) → c + m + c ≡ m + 2 * c
    turn c m = omega arith

    even : (c m : ℕ) → is_odd (m + 2 * c) ≡ is_odd m
    even c m = grind arith

-- the law
pub shared-chains : SharedChainsCancel
shared-chains n p =
    let chain = crossings p (closing_edges n.last n.first n.between) in
    let beyond = crossings p (closing_edges n.first n.last n.beyond) in
    let before = crossings p (closing_edges n.last n.first n.before) in
    let one : crossings p (ring_edges (along n)) ≡ chain + beyond = crossings-ring p n.first n.last n.between n.beyond in
    let other : crossings p (ring_edges (back n)) ≡ chain + before =
    crossings-ring p n.last n.first (reverse n.between) n.before ∙ ap (λ c. c + before) (crossings-back p n.first n.last n.between) in
    let round : crossings p (ring_edges (outline n)) ≡ beyond + before = crossings-ring p n.last n.first n.beyond n.before in
    let both : crossings p (ring_edges (along n) ++ (ring_edges (back n) ++ [])) ≡ chain + (beyond + before) + chain =
    crossings-append p (ring_edges (along n)) (ring_edges (back n) ++ [])
    ∙ (ap (λ e. crossings p (ring_edges (along n)) + crossings p e) (append-nil (ring_edges (back n))) ∙ sum (crossings p (ring_edges (along n))) (crossings p (ring_edges (back n))) chain beyond before one other) in
    ap is_odd both ∙ (twice-more chain (beyond + before) ∙ ap is_odd (sym (ap (crossings p) (append-nil (ring_edges (outline n))) ∙ round)))
  where
    sum : (a b c m k : ℕ) → a ≡ c + m → b ≡ c + k → a + b ≡ c + (m + k) + c
    sum a b c m k e f = omega (arith, e, f)
