use Rattle.collide.proofs.Boxed.{near-hits}
use Rattle.collide.proofs.boxes.Boxes.hits.Goals as goal

pub returns-then-are_near : goal.returns-then-are_near
returns-then-are_near c =
    let kept = c.self.invariant in
    let near = c.are_near.ensures.0 c.if-are_near.true in
    let h = near-hits c.self.inside.marks c.self.inside.all_near c.self.inside.boxes.items c.args.area kept near.0 near.1 in
    rw (← c.self.view_is) (λ e. h.0 (c.has_marked.ensures.0 e), λ a. c.has_marked.ensures.1 (h.1 a))
