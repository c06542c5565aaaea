use Rattle.std.proofs.Common.{sym}
use Rattle.layers.proofs.Changing.{boxes-emptied}
use Rattle.layers.proofs.layers.Layers.clear_at.Goals as goal

pub invariant_of-self : goal.invariant_of-self
invariant_of-self c = rw (c.clear.ensures, c.empty.ensures, c.self.invariant) (sym (boxes-emptied c.args.index c.self.inside.served.layers (rw (← c.self.view_is) at c.requires)))
