use Rattle.std.proofs.lemmas.List.Elements.{All-nil, All-push}
use Rattle.gridindex.specs.Groups.{IsLevel}
use Rattle.gridindex.proofs.Covering.{level-same}
use Rattle.gridindex.proofs.level.copied.Goals as goal

pub loop-level-init : goal.loop-level-init
loop-level-init c = λ boxes order grouped kept. rw c.in_ok-copies.ensures.items (All-nil (IsLevel boxes order grouped))

pub loop-level-preserved : goal.loop-level-preserved
loop-level-preserved c = λ boxes order grouped kept.
    let level = c.level-item.result in
    let is : IsLevel boxes order grouped level = rw c.level-item.is (kept c.loop-level.level-index level c.loop-level-test.true) in
    rw c.in_ok-push.ensures.items
    (All-push (IsLevel boxes order grouped) c.loop-level.copies.items _ (c.loop-level.invariant boxes order grouped kept)
    (level-same boxes order grouped level c.in_ok-copied.field-0 c.in_ok-copied.ensures.size c.in_ok-copied.ensures.covers is))
