use Rattle.labelcache.proofs.NotedAnchors.{noted-grows, noted-more}
use Rattle.labelcache.proofs.marked.MarkedAnchors.add.Goals as goal

pub invariant_of-self-in_err-mark_point : goal.invariant_of-self-in_err-mark_point
invariant_of-self-in_err-mark_point c =
    rw c.reserve.ensures.items
    (noted-grows c.self.inside.marked c.mark_point.new.marked c.self.inside.anchors.items c.self.invariant c.mark_point.ensures.grows c.in_err-mark_point.ensures.err)

pub invariant_of-self-2 : goal.invariant_of-self-2
invariant_of-self-2 c =
    let point = c.point_of.ensures.value in
    rw (c.push_reserved.ensures.items, c.reserve.ensures.items)
    (noted-more c.self.inside.marked c.mark_point.new.marked c.self.inside.anchors.items c.args.anchor c.self.invariant c.requires
    c.mark_point.ensures.grows (rw point at c.in_ok-mark_point.ensures.done) (rw point at c.in_ok-mark_point.ensures.only))
