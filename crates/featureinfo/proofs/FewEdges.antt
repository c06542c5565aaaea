-- Few edges in place of many, near the queried pixel.
use Rattle.std.proofs.Common.{◌≡◌, ◌∙◌, ◌↔◌, ℕ, ◌+◌, ◌<◌, Bool, true, false, not, if◌then◌else◌, cond, List, [], ◌∷◌, ◌++◌, map, take, append-nil, append_assoc, length, get_or, refl, sym, ap, arith, IsTrue}
use Rattle.std.proofs.lemmas.Bool.{and_left}
use Rattle.std.proofs.lemmas.Int.{clamps, ints}
use Rattle.std.proofs.lemmas.List.{map-append, take_more}
use Rattle.std.proofs.lemmas.List.Sums.{sum_by-append, sum_by-cons}
use Rattle.std.specs.Int.{int_div_euclid, int_max, int_min}
use Rattle.std.specs.List.{count_by}
use Rattle.std.specs.Prelude.{int_le}
use lib.IntN.{ℤ, pos, ◌+ℤ◌}
use lib.Signed.{◌≤ℤ◌}
use Rattle.geom.specs.Device.{DevicePoint, centre, pixel_centre}
use Rattle.geom.specs.Edge.{EdgeEnds, crosses_at_or_left, crosses_height, meets_at_or_left}
use Rattle.geom.specs.EvenOdd.{edge_between, edges, is_covered, is_odd, ring_edges}
use Rattle.geom.specs.Laws.{is_one_of}
use Rattle.geom.specs.World.{Place}
use Rattle.geom.proofs.Products.{same_order}
use Rattle.geom.proofs.Quotients.{quotient_parts}
use Rattle.geom.proofs.Rings.{closing_edges}
use Rattle.geom.proofs.Together.{odd-add}
use Rattle.viewport.specs.View.{ViewValue, device_point}
use Rattle.vertices.specs.Chain.{chain_edges, chain_end}
use Rattle.vertices.proofs.Chains.{odd-one}
use Rattle.vertices.proofs.Placing.{end-placed}
use Rattle.featureinfo.specs.FewEdges.{CoverAlike, row_from}
use Rattle.featureinfo.specs.Nearby.{IsOf, SomeNear}
use Rattle.featureinfo.specs.declared.nearby.Nearby.{Nearby}

-- what edges cover together, and with one more
covered-append : (xs ys : List EdgeEnds) (p : DevicePoint) → is_covered (xs ++ ys) p ≡ is_one_of (is_covered xs p) (is_covered ys p)
covered-append xs ys p =
    ap is_odd (sum_by-append (λ e. cond {A = ℕ} (crosses_at_or_left p e) 1 0) xs ys)
    ∙ odd-add (count_by (crosses_at_or_left p) xs) (count_by (crosses_at_or_left p) ys)

one-false : (b : Bool) → is_one_of b false ≡ b
one-false true = refl
one-false false = refl

pub covered-one : (e : EdgeEnds) (p : DevicePoint) → is_covered (e ∷ []) p ≡ crosses_at_or_left p e
covered-one e p =
    ap is_odd (sum_by-cons (λ x. cond {A = ℕ} (crosses_at_or_left p x) 1 0) e [])
    ∙ (odd-add (cond {A = ℕ} (crosses_at_or_left p e) 1 0) (count_by (crosses_at_or_left p) [])
    ∙ (one-false (is_odd (cond {A = ℕ} (crosses_at_or_left p e) 1 0)) ∙ odd-one (crosses_at_or_left p e)))

module _ (n : Nearby) where
  pub alike-same : (few many : List EdgeEnds) → few ≡ many → CoverAlike n few many
  alike-same few many e = record { same = λ i j at. ap (λ es. is_covered es (pixel_centre (pos i) (pos j))) e }

  pub alike-on : (a b c : List EdgeEnds) → CoverAlike n a b → CoverAlike n b c → CoverAlike n a c
  alike-on a b c f g = record { same = λ i j at. f.same i j at ∙ g.same i j at }

  -- the same edges after both
  alike-after : (few many rest : List EdgeEnds) → CoverAlike n few many → CoverAlike n (few ++ rest) (many ++ rest)
  alike-after few many rest f = record {
    same = λ i j at.
        let p = pixel_centre (pos i) (pos j) in
        covered-append few rest p ∙ (ap (λ b. is_one_of b (is_covered rest p)) (f.same i j at) ∙ sym (covered-append many rest p));
  }

  -- and before both
  pub alike-before : (old few many : List EdgeEnds) → CoverAlike n few many → CoverAlike n (old ++ few) (old ++ many)
  alike-before old few many f = record {
    same = λ i j at.
        let p = pixel_centre (pos i) (pos j) in
        covered-append old few p ∙ (ap (λ b. is_one_of (is_covered old p) b) (f.same i j at) ∙ sym (covered-append old many p));
  }

  -- edges that cover none of the pixels may be left out
  pub alike-none : (old many : List EdgeEnds) → CoverAlike n [] many → CoverAlike n old (old ++ many)
  alike-none old many f = alike-on old (old ++ []) (old ++ many) (alike-same old (old ++ []) (sym (append-nil old))) (alike-before old [] many f)

  -- edges that were added needn't be added again
  pub left-next : (kept new whole left more rest : List EdgeEnds) → left ≡ more ++ rest → CoverAlike n (kept ++ left) whole → CoverAlike n new (kept ++ more) →
      CoverAlike n (new ++ rest) whole
  left-next kept new whole left more rest e is adds =
      let parted : (kept ++ more) ++ rest ≡ kept ++ left = append_assoc kept more rest ∙ ap (λ es. kept ++ es) (sym e) in
      alike-on (new ++ rest) ((kept ++ more) ++ rest) whole (alike-after new (kept ++ more) rest adds)
      (alike-on ((kept ++ more) ++ rest) (kept ++ left) whole (alike-same ((kept ++ more) ++ rest) (kept ++ left) parted) is)

  pub left-last : (kept new whole left more : List EdgeEnds) → left ≡ more → CoverAlike n (kept ++ left) whole → CoverAlike n new (kept ++ more) → CoverAlike n new whole
  left-last kept new whole left more e is adds =
      alike-on new (kept ++ more) whole adds (alike-on (kept ++ more) (kept ++ left) whole (alike-same (kept ++ more) (kept ++ left) (ap (λ es. kept ++ es) (sym e))) is)

  pub left-none : (kept whole left : List EdgeEnds) → left ≡ [] → CoverAlike n (kept ++ left) whole → CoverAlike n kept whole
  left-none kept whole left e is = left-last kept kept whole left [] e is (alike-same kept (kept ++ []) (sym (append-nil kept)))

  -- some near pixel is covered by the few edges exactly where one is by the many
  other-test : (f g : ℕ → ℕ → Bool) → ((i j : ℕ) → IsOf n i j → f i j ≡ g i j) → SomeNear n f → SomeNear n g
  other-test f g same near = record {
    column = near.column;
    row = near.row;
    left = near.left;
    right = near.right;
    top = near.top;
    bottom = near.bottom;
    passes = sym (same near.column near.row (record { left = near.left; right = near.right; top = near.top; bottom = near.bottom })) ∙ near.passes;
  }

  pub near-alike : (few many : List EdgeEnds) (hit : Bool) → CoverAlike n few many → IsTrue hit ↔ SomeNear n (λ i j. is_covered few (pixel_centre (pos i) (pos j))) →
      IsTrue hit ↔ SomeNear n (λ i j. is_covered many (pixel_centre (pos i) (pos j)))
  near-alike few many hit alike says =
      let f : ℕ → ℕ → Bool = λ i j. is_covered few (pixel_centre (pos i) (pos j)) in
      let g : ℕ → ℕ → Bool = λ i j. is_covered many (pixel_centre (pos i) (pos j)) in
      (λ t. other-test f g (λ i j at. alike.same i j at) (says.0 t), λ near. says.1 (other-test g f (λ i j at. sym (alike.same i j at)) near))

  -- a height is at most the pixel centres of a near row exactly where its first row is at most that one
  row-at_most : (y : ℤ) (i j : ℕ) → IsOf n i j → int_le (row_from n y) (pos j) ≡ int_le y (centre (pos j))
  unfolding row_from
  row-at_most y i j at =
      let q = int_div_euclid (y +ℤ pos 7) (pos 16) in
      let parts = quotient_parts (y +ℤ pos 7) (pos 16) (omega (arith, ints)) in
      same_order (int_min (int_max q (pos n.top)) (pos n.bottom)) (pos j) y (centre (pos j))
      (λ (le : int_min (int_max q (pos n.top)) (pos n.bottom) ≤ℤ pos j). omega (arith, ints, clamps, parts.0, parts.1, at.top, at.bottom))
      (λ (le : y ≤ℤ centre (pos j)). omega (arith, ints, clamps, parts.0, parts.1, at.top, at.bottom))

  same-tests : (s t : Bool) → s ≡ t → (if s then not t else t) ≡ false
  same-tests true true e = refl
  same-tests false false e = refl
  same-tests true false e = absurd (cc)
  same-tests false true e = absurd (cc)

  -- an edge whose ends have one first row crosses no near row
  pub edge-missed : (from to : DevicePoint) → row_from n from.y ≡ row_from n to.y → CoverAlike n [] (edge_between (from, to) ∷ [])
  edge-missed from to same = record {
    same = λ i j at.
        let p = pixel_centre (pos i) (pos j) in
        let e : EdgeEnds = edge_between (from, to) in
        let tests : int_le from.y (centre (pos j)) ≡ int_le to.y (centre (pos j)) =
        sym (row-at_most from.y i j at) ∙ (ap (λ z. int_le z (pos j)) same ∙ row-at_most to.y i j at) in
        let missed : crosses_at_or_left p e ≡ false =
        and_left (crosses_height e (centre (pos j))) (meets_at_or_left p e) (same-tests (int_le from.y (centre (pos j))) (int_le to.y (centre (pos j))) tests) in
        sym (covered-one e p ∙ missed);
  }

  -- the edges of a ring after a block
  closing-append : (first from : DevicePoint) (chain rest : List DevicePoint) →
      closing_edges first from (chain ++ rest) ≡ chain_edges from chain ++ closing_edges first (chain_end from chain) rest
  closing-append first from [] rest = refl
  closing-append first from (to ∷ chain) rest = ap (λ es. record { from = from; to = to } ∷ es) (closing-append first to chain rest)

  pub ring-block : (view : ViewValue) (kept new whole : List EdgeEnds) (first from : Place) (left block behind : List Place) → left ≡ block ++ behind →
      CoverAlike n (kept ++ closing_edges (device_point view first) (device_point view from) (map (device_point view) left)) whole →
      CoverAlike n new (kept ++ chain_edges (device_point view from) (map (device_point view) block)) →
      CoverAlike n (new ++ closing_edges (device_point view first) (device_point view (chain_end from block)) (map (device_point view) behind)) whole
  ring-block view kept new whole first from left block behind e is adds =
      let point : Place → DevicePoint = device_point view in
      let parted : closing_edges (point first) (point from) (map point left) ≡ chain_edges (point from) (map point block) ++ closing_edges (point first) (point (chain_end from block)) (map point behind) =
      ap (λ (ps : List Place). closing_edges (point first) (point from) (map point ps)) e
      ∙ (ap (λ ps. closing_edges (point first) (point from) ps) (map-append point block behind)
      ∙ (closing-append (point first) (point from) (map point block) (map point behind)
      ∙ ap (λ p. chain_edges (point from) (map point block) ++ closing_edges (point first) p (map point behind)) (end-placed view from block))) in
      left-next kept new whole (closing_edges (point first) (point from) (map point left)) (chain_edges (point from) (map point block))
      (closing_edges (point first) (point (chain_end from block)) (map point behind)) parted is adds

  -- the edges of one ring more
  edges-one : (view : ViewValue) (rings : List (List Place)) (ring : List Place) →
      edges (map (map (device_point view)) (rings ++ ring ∷ [])) ≡ edges (map (map (device_point view)) rings) ++ ring_edges (map (device_point view) ring)
  edges-one view [] ring = append-nil (ring_edges (map (device_point view) ring))
  edges-one view (r ∷ rings) ring =
      ap (λ es. ring_edges (map (device_point view) r) ++ es) (edges-one view rings ring)
      ∙ sym (append_assoc (ring_edges (map (device_point view) r)) (edges (map (map (device_point view)) rings)) (ring_edges (map (device_point view) ring)))

  pub ring-next : (view : ViewValue) (rings : List (List Place)) (i : ℕ) (ring : List Place) (kept new : List EdgeEnds) → i < length rings → ring ≡ get_or rings i ring →
      CoverAlike n kept (edges (map (map (device_point view)) (take i rings))) → CoverAlike n new (kept ++ ring_edges (map (device_point view) ring)) →
      CoverAlike n new (edges (map (map (device_point view)) (take (i + 1) rings)))
  ring-next view rings i ring kept new below e is adds =
      let here : get_or rings i ring ∷ [] ≡ ring ∷ [] = ap (λ y. y ∷ []) (sym e) in
      let before : List EdgeEnds = edges (map (map (device_point view)) (take i rings)) in
      let more : List EdgeEnds = ring_edges (map (device_point view) ring) in
      rw (take_more rings i ring below, here, edges-one view (take i rings) ring)
      (alike-on new (kept ++ more) (before ++ more) adds (alike-after kept before more is))

  -- the edges of a chain after one more
  pub chain-next : (view : ViewValue) (kept new whole : List EdgeEnds) (at next : DevicePoint) (to : Place) (rest more : List Place) → rest ≡ to ∷ more → next ≡ device_point view to →
      CoverAlike n (kept ++ chain_edges at (map (device_point view) rest)) whole → CoverAlike n new (kept ++ edge_between (at, next) ∷ []) →
      CoverAlike n (new ++ chain_edges next (map (device_point view) more)) whole
  chain-next view kept new whole at next to rest more e f is adds =
      let point : Place → DevicePoint = device_point view in
      left-next kept new whole (chain_edges at (map point rest)) (edge_between (at, next) ∷ []) (chain_edges next (map point more))
      (ap (λ (ps : List Place). chain_edges at (map point ps)) e ∙ ap (λ v. edge_between (at, v) ∷ chain_edges v (map point more)) (sym f)) is adds
