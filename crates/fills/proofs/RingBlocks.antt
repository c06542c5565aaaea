-- Flips of a ring, block by block, and of a block, vertex by vertex.
use Rattle.std.proofs.Common.{◌≡◌, ◌∙◌, ℕ, ◌&&◌, true, List, [], ◌∷◌, ◌++◌, map, refl, sym, ap}
use Rattle.std.proofs.lemmas.Bool.{and_parts}
use Rattle.std.proofs.lemmas.List.{append-nil, map-append}
use Rattle.std.specs.Prelude.{int_le}
use Rattle.geom.specs.Device.{DevicePoint}
use Rattle.geom.specs.Edge.{EdgeEnds}
use Rattle.geom.specs.EvenOdd.{edge_between, ring_edges}
use Rattle.geom.specs.World.{Place}
use Rattle.geom.proofs.Products.{le_of}
use Rattle.geom.proofs.Rings.{closing_edges, ring_edges-closing}
use Rattle.viewport.specs.View.{ViewValue, device_point}
use Rattle.fills.specs.declared.run.Run.{Run}
use Rattle.canvas.specs.Latitudes.{row_of}
use Rattle.fills.specs.Flipped.{Adds, AddsEdge, IsRun, AddsChain}
use Rattle.vertices.specs.Chain.{chain_edges, chain_end}
use Rattle.vertices.proofs.Placing.{end-placed}
use Rattle.fills.proofs.Flipping.{IsLeft, adds-edge, closing-append, left-all, left-next, left-none, row-between, run-missed}

-- a vertex between the two latitudes of the run adds nothing, and the run goes on from it
pub step-within : (view : ViewValue) (run : Run) (to : Place) (flips : List ℕ) → IsRun view run → (int_le run.low to.y && int_le to.y run.high) ≡ true →
    AddsEdge view flips run.from to flips × IsRun view (record { from = to; row = run.row; low = run.low; high = run.high })
step-within view run to flips is has =
    let both = and_parts (int_le run.low to.y) (int_le to.y run.high) has in
    let least = le_of run.low to.y both.0 in
    let most = le_of to.y run.high both.1 in
    let row : row_of view to.y ≡ run.row = row-between view run.low run.high to.y run.row is.rows is.low is.high least most in
    (run-missed view run to flips is row, record { low = is.low; high = is.high; least = least; most = most; rows = is.rows })

-- the edges of a block that remain after one more
pub chain-next : (view : ViewValue) (old flips new : List ℕ) (whole : List EdgeEnds) (from to : Place) (rest more : List Place) → rest ≡ to ∷ more →
    IsLeft view old flips whole (chain_edges (device_point view from) (map (device_point view) rest)) → AddsEdge view flips from to new →
    IsLeft view old new whole (chain_edges (device_point view to) (map (device_point view) more))
chain-next view old flips new whole from to rest more e is adds =
    left-next view old flips new whole (chain_edges (device_point view from) (map (device_point view) rest)) (edge_between (device_point view from, device_point view to) ∷ [])
    (chain_edges (device_point view to) (map (device_point view) more))
    (ap (λ (ps : List Place). chain_edges (device_point view from) (map (device_point view) ps)) e) is (adds-edge view flips new from to adds)

pub chain-none : (view : ViewValue) (old flips : List ℕ) (whole : List EdgeEnds) (from : Place) (rest : List Place) → rest ≡ [] →
    IsLeft view old flips whole (chain_edges (device_point view from) (map (device_point view) rest)) → Adds view old whole flips
chain-none view old flips whole from rest e is =
    left-none view old flips whole (chain_edges (device_point view from) (map (device_point view) rest)) (ap (λ (ps : List Place). chain_edges (device_point view from) (map (device_point view) ps)) e) is

-- the edges of a ring that remain after a block
pub ring-block : (view : ViewValue) (old flips new : List ℕ) (whole : List EdgeEnds) (first from end : Place) (left block behind : List Place) → left ≡ block ++ behind → end ≡ chain_end from block →
    IsLeft view old flips whole (closing_edges (device_point view first) (device_point view from) (map (device_point view) left)) → AddsChain view flips from block new →
    IsLeft view old new whole (closing_edges (device_point view first) (device_point view end) (map (device_point view) behind))
ring-block view old flips new whole first from end left block behind e f is adds =
    let point : Place → DevicePoint = device_point view in
    let parted : closing_edges (point first) (point from) (map point left) ≡ chain_edges (point from) (map point block) ++ closing_edges (point first) (point end) (map point behind) =
    ap (λ (ps : List Place). closing_edges (point first) (point from) (map point ps)) e
    ∙ (ap (λ ps. closing_edges (point first) (point from) ps) (map-append point block behind)
    ∙ (closing-append (point first) (point from) (map point block) (map point behind)
    ∙ ap (λ p. chain_edges (point from) (map point block) ++ closing_edges (point first) p (map point behind)) (end-placed view from block ∙ ap point (sym f)))) in
    left-next view old flips new whole (closing_edges (point first) (point from) (map point left)) (chain_edges (point from) (map point block))
    (closing_edges (point first) (point end) (map point behind)) parted is adds

-- and after the last edge
pub ring-none : (view : ViewValue) (old flips new : List ℕ) (whole : List EdgeEnds) (first from : Place) (left : List Place) → left ≡ [] →
    IsLeft view old flips whole (closing_edges (device_point view first) (device_point view from) (map (device_point view) left)) → AddsEdge view flips from first new → Adds view old whole new
ring-none view old flips new whole first from left e is adds =
    let point : Place → DevicePoint = device_point view in
    left-none view old new whole [] refl
    (left-next view old flips new whole (closing_edges (point first) (point from) (map point left)) (edge_between (point from, point first) ∷ []) []
    (ap (λ (ps : List Place). closing_edges (point first) (point from) (map point ps)) e) is (adds-edge view flips new from first adds))

-- the edges over all vertices and the one back to the first are those of the ring
pub ring-whole : (view : ViewValue) (old mid new : List ℕ) (ring : List Place) (first end : Place) (rest : List Place) → ring ≡ first ∷ rest → end ≡ chain_end first rest →
    AddsChain view old first rest mid → AddsEdge view mid end first new → Adds view old (ring_edges (map (device_point view) ring)) new
ring-whole view old mid new ring first end rest whole is chain edge =
    let point : Place → DevicePoint = device_point view in
    let edges : List EdgeEnds = ring_edges (map point ring) in
    ring-none view old mid new edges first end [] refl
    (ring-block view old old mid edges first first end rest rest [] (sym (append-nil rest)) is
    (left-all view old edges (closing_edges (point first) (point first) (map point rest)) (ring_edges-closing (map point ring) (point first) (map point rest) (ap (map point) whole))) chain)
    edge
