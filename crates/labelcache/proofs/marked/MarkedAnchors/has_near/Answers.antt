use Rattle.labelcache.proofs.NotedAnchors.{found-place, place-found}
use Rattle.labelcache.proofs.marked.MarkedAnchors.has_near.Goals as goal

pub returns : goal.returns
returns c =
    let marked = c.self.inside.marked in
    let anchors = c.self.inside.anchors.items in
    let anchor = c.args.anchor in
    rw (← c.self.view_is) (
      λ h. found-place marked anchors anchor c.args.distance c.self.invariant c.requires (rw c.point_of.ensures.value at (c.has_near.ensures.sound h)),
      λ a. let f = place-found marked anchors anchor c.args.distance c.self.invariant c.requires a in
          c.has_near.ensures.complete f.0 f.2 (rw c.point_of.ensures.value f.3),
    )
