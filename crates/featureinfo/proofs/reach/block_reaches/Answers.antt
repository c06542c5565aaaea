use Rattle.std.proofs.Common.{◌≡◌, ◌∙◌, sym}
use Rattle.std.proofs.lemmas.Int.{to_z-of_z}
use mir.Syntax.{w64}
use mir.Val.{of_z, to_z}
use Rattle.featureinfo.proofs.BlocksReaching.{all-beyond}
use Rattle.featureinfo.proofs.reach.block_reaches.Goals as goal

pub returns-else-box_reaches : goal.returns-else-box_reaches
returns-else-box_reaches c =
    let word : to_z w64 (of_z w64 c.args.limit) ≡ c.args.limit = to_z-of_z w64 c.args.limit c.ranges.limit in
    c.if-box_reaches.false
    ∙ sym (all-beyond c.args.projection.now c.args.block.now.area c.args.limit c.args.side c.args.block.now.vertices.now c.box_reaches.ensures.limits c.requires
    (rw word at (sym c.box_reaches.ensures.value ∙ c.if-box_reaches.false)))
