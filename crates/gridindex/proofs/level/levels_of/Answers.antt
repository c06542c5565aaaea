use Rattle.std.proofs.Common.{length}
use Rattle.std.proofs.lemmas.List.Elements.{All-push}
use Rattle.gridindex.specs.Groups.{IsLevel}
use Rattle.gridindex.proofs.level.levels_of.Goals as goal
use Rattle.gridindex.proofs.level.levels_of.Goals.{then-size-order+in_ok-of+in_ok-push, else-size-order}

pub loop-size-preserved : goal.loop-size-preserved
loop-size-preserved c = elim c.if-size-order.branch [
  | then-size-order+in_ok-of+in_ok-push w ↦ rw (w.levels-is, w.in_ok-push.ensures.items)
      (All-push (IsLevel c.args.boxes.now c.args.order.now (length c.args.order.now)) c.loop-size.levels.items _ c.loop-size.invariant w.in_ok-of.ensures)
  | else-size-order w ↦ rw w.levels-is c.loop-size.invariant
]
