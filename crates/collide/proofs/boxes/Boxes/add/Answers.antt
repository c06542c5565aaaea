use Rattle.collide.proofs.Boxed.{kept-more}
use Rattle.collide.proofs.boxes.Boxes.add.Goals as goal

pub invariant_of-self-2 : goal.invariant_of-self-2
invariant_of-self-2 c =
    rw c.in_ok-push.ensures.items
    (kept-more c.self.inside.marks c.mark.new.self c.self.inside.all_near c.are_near-self-inside.result c.self.inside.boxes.items c.args.area c.self.invariant c.mark.ensures.whole
    c.mark.ensures.columns c.mark.ensures.rows c.mark.ensures.marked c.are_near-self-inside.ensures.0)
