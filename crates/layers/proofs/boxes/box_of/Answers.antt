use Rattle.std.proofs.Common.{◌≡◌, ◌∙◌, ◌+◌, ap, drop, fold, refl, sym}
use Rattle.mapdefs.proofs.BlockBoxes.{wider-same}
use Rattle.mapdefs.specs.Blocks.{nowhere, with_place}
use Rattle.layers.specs.Boxes.{with_box, with_parts}
use Rattle.layers.proofs.BlocksJoined.{box-wider, rest-next, with-places}
use Rattle.layers.proofs.boxes.box_of.Goals as goal

pub loop-part-init : goal.loop-part-init
loop-part-init c = rw c.nowhere-area.ensures (record { box = refl; wide = wider-same nowhere })

pub loop-part-preserved : goal.loop-part-preserved
loop-part-preserved c =
    let l = c.loop-part in
    let parts = c.as_slice-part-items.result.now in
    let rest = drop (l.part-index + 1) parts in
    let next = rest-next parts l.part-index c.part-item.result c.loop-part-test.true c.part-item.is in
    let grown : c.with_box-area.result ≡ fold with_place l.area c.part-item.result =
    c.with_box-area.ensures ∙ (ap (λ b. with_box l.area b) c.box_of_part.ensures ∙ with-places l.area c.part-item.result l.invariant.wide) in
    record {
      box = ap (λ a. with_parts a rest) grown ∙ (ap (λ ps. with_parts l.area ps) (sym next) ∙ l.invariant.box);
      wide = rw c.with_box-area.ensures (box-wider l.area c.box_of_part.result nowhere l.invariant.wide);
    }
