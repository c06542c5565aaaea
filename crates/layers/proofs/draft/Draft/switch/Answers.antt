use Rattle.layers.proofs.Drafting.{switch-matched}
use Rattle.layers.proofs.Rooms.{room-kept}
use Rattle.layers.proofs.draft.Draft.switch.Goals as goal

pub invariant_of-self : goal.invariant_of-self
invariant_of-self c = room-kept c.args.name.now c.args.on c.self.inside.more.items c.self.inside.layers c.switch.new.self c.switch.result c.switch.ensures c.self.invariant

pub returns : goal.returns
returns c = rw (← c.self.view_is) (switch-matched c.args.name.now c.args.on c.self.inside.more.items c.self.inside.layers c.switch.new.self c.switch.result c.switch.ensures)
