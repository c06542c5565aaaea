use Rattle.std.proofs.Common.{◌≡◌, ◌∙◌, ◌+◌, ◌*◌, ap, arith, drop, sym}
use Rattle.std.proofs.lemmas.Int.{to_z-of_z}
use Rattle.std.proofs.lemmas.List.{drop-drop}
use mir.Syntax.{w64}
use mir.Val.{of_z, to_z}
use Rattle.featureinfo.proofs.BlocksReaching.{block-places, passed-over, reached}
use Rattle.featureinfo.proofs.reach.part_reaches.Goals as goal

pub block_reaches-requires : goal.block_reaches-requires
block_reaches-requires c =
    let l = c.loop-area in
    rw c.split_block.ensures.block (block-places c.args.part.now c.boxes-area-items.result.now l.area-index c.area-item.result l.left.now c.boxes-area-items.ensures c.loop-area-test.true c.area-item.is l.invariant.here)

pub returns-then-block_reaches : goal.returns-then-block_reaches
returns-then-block_reaches c =
    let l = c.loop-area in
    let word : to_z w64 (of_z w64 c.args.limit) ≡ c.args.limit = to_z-of_z w64 c.args.limit c.ranges.limit in
    sym (rw word at (sym l.invariant.reach ∙ reached c.args.projection.now _ c.args.side l.left.now c.split_block.result.0.now c.split_block.ensures.block (sym c.if-block_reaches.ensures)))

pub loop-area-preserved : goal.loop-area-preserved
loop-area-preserved c =
    let l = c.loop-area in
    let on : 32 * l.area-index + 32 ≡ 32 * (l.area-index + 1) = omega arith in
    record {
      here = c.split_block.ensures.behind ∙ (ap (drop 32) l.invariant.here ∙ (drop-drop 32 (32 * l.area-index) c.args.part.now ∙ ap (λ n. drop n c.args.part.now) on));
      reach = passed-over c.args.projection.now _ c.args.side l.left.now c.split_block.result.0.now c.split_block.result.1.now c.split_block.ensures.block c.split_block.ensures.behind
          (sym c.block_reaches.ensures ∙ c.if-block_reaches.false) ∙ l.invariant.reach;
    }
