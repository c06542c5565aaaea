use Rattle.std.proofs.Common.{◌≡◌, ◌∙◌, ◌++◌, add-one, ap, sym, arith}
use Rattle.std.specs.Prelude.{option_map}
use Rattle.featureinfo.specs.Answer.{item_lines}
use Rattle.featureinfo.proofs.ItemLines.{line-more, lines-end}
use Rattle.featureinfo.proofs.text_lines.add_items.Goals as goal

pub loop-index-preserved : goal.loop-index-preserved
loop-index-preserved c =
    let l = c.loop-index in
    let names = c.args.names.now in
    let values = c.args.values.now in
    let there = sym c.get.ensures ∙ ap (option_map (λ value. value.now)) c.in-Some.is in
    rw (add-one l.index, c.in_ok-add_item.ensures, c.as_str.ensures)
    (line-more l.out.items (c.args.out.now.items ++ item_lines names values) names values l.index c.index-names-index.result c.in-Some.value.now
    (omega (arith, c.loop-index-test.true)) c.index-names-index.is there l.invariant)

pub returns-in_default : goal.returns-in_default
returns-in_default c =
    let names = c.args.names.now in
    let values = c.args.values.now in
    lines-end c.loop-index.out.items (c.args.out.now.items ++ item_lines names values) names values c.loop-index.index
    (sym c.get.ensures ∙ ap (option_map (λ value. value.now)) c.in_default.is) c.loop-index.invariant
