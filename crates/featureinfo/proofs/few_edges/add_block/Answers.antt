use Rattle.std.proofs.Common.{◌∙◌, [], ◌∷◌, ◌++◌, sym}
use Rattle.geom.specs.EvenOdd.{edge_between}
use Rattle.viewport.specs.View.{device_point}
use Rattle.vertices.specs.Chain.{chain_end}
use Rattle.featureinfo.specs.FewEdges.{edges_along}
use Rattle.featureinfo.proofs.FewEdges.{alike-before, alike-none, alike-on}
use Rattle.featureinfo.proofs.SkippedBlocks.{bottom-skipped, by-chord, right-skipped, top-skipped}
use Rattle.featureinfo.proofs.few_edges.add_block.Goals as goal

pub returns-then-is_beyond : goal.returns-then-is_beyond
returns-then-is_beyond c =
    let near = c.args.near.now in
    let block = c.args.block.now in
    alike-none near.nearby c.args.edges.now.items _
    (right-skipped near.projection.now near.nearby block.area c.args.from block.vertices.now c.is_beyond.ensures.limits c.requires (sym c.is_beyond.ensures.value ∙ c.if-is_beyond.true))

pub returns-then-is_beyond-2 : goal.returns-then-is_beyond-2
returns-then-is_beyond-2 c =
    let near = c.args.near.now in
    let block = c.args.block.now in
    alike-none near.nearby c.args.edges.now.items _
    (bottom-skipped near.projection.now near.nearby block.area c.args.from block.vertices.now c.is_beyond.ensures.limits c.requires (sym c.is_beyond-2.ensures.value ∙ c.if-is_beyond-2.true))

pub returns-then-is_beyond-3 : goal.returns-then-is_beyond-3
returns-then-is_beyond-3 c =
    let near = c.args.near.now in
    let block = c.args.block.now in
    alike-none near.nearby c.args.edges.now.items _
    (top-skipped near.projection.now near.nearby block.area c.args.from block.vertices.now c.is_beyond.ensures.limits c.requires (sym c.is_beyond-3.ensures.value ∙ c.if-is_beyond-3.true))

pub returns-then-is_beyond-4 : goal.returns-then-is_beyond-4
returns-then-is_beyond-4 c =
    let near = c.args.near.now in
    let view = near.projection.now in
    let block = c.args.block.now in
    let old = c.args.edges.now.items in
    let end = chain_end c.args.from block.vertices.now in
    alike-on near.nearby c.add_edge.new.edges.items (old ++ edge_between (device_point view c.args.from, device_point view end) ∷ []) (old ++ edges_along view c.args.from block.vertices.now)
    (rw (c.device.ensures, c.device-last.ensures, c.last_of.ensures) at c.in_ok-add_edge.ensures)
    (alike-before near.nearby old (edge_between (device_point view c.args.from, device_point view end) ∷ []) (edges_along view c.args.from block.vertices.now)
    (by-chord view near.nearby block.area c.args.from block.vertices.now c.is_beyond.ensures.limits c.requires (sym c.is_beyond-4.ensures.value ∙ c.if-is_beyond-4.true)))
