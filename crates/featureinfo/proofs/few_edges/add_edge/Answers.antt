use Rattle.std.proofs.Common.{◌≡◌, ◌∙◌, ◌∷◌, [], ap, sym}
use Rattle.scaledenom.proofs.Products.{taken}
use mir.Syntax.{w64}
use mir.Val.{to_z}
use Rattle.geom.specs.EvenOdd.{edge_between}
use Rattle.featureinfo.specs.FewEdges.{row_from}
use Rattle.featureinfo.proofs.FewEdges.{alike-none, edge-missed}
use Rattle.featureinfo.proofs.few_edges.add_edge.Goals as goal

pub returns-then-row_from : goal.returns-then-row_from
returns-then-row_from c =
    let n = c.args.nearby in
    let one : c.row_from.result ≡ row_from n c.args.from.y = c.row_from.ensures ∙ ap (row_from n) (taken c.y.result c.y.type_inv ∙ c.y.ensures.value) in
    let other : c.row_from-2.result ≡ row_from n c.args.to.y = c.row_from-2.ensures ∙ ap (row_from n) (taken c.y-2.result c.y-2.type_inv ∙ c.y-2.ensures.value) in
    let same : c.row_from.result ≡ c.row_from-2.result =
    sym (taken c.row_from.result c.row_from.type_inv) ∙ (ap (to_z w64) c.if-row_from.true ∙ taken c.row_from-2.result c.row_from-2.type_inv) in
    alike-none n c.args.edges.now.items (edge_between (c.args.from, c.args.to) ∷ []) (edge-missed n c.args.from c.args.to (sym one ∙ (same ∙ other)))
