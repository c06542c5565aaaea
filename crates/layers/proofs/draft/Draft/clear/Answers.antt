use Rattle.std.proofs.Common.{refl, arith}
use Rattle.std.proofs.lemmas.Slice.Zip.{AllZip-long}
use Rattle.mapdefs.specs.Change.{HasRoomFor}
use Rattle.layers.proofs.Drafting.{clear-refused, clear-waits}
use Rattle.layers.proofs.Rooms.{room-cleared}
use Rattle.layers.proofs.draft.Draft.clear.Goals as goal

pub index_mut-requires : goal.index_mut-requires
index_mut-requires c =
    omega (arith, c.in-Ok.ensures.within, AllZip-long HasRoomFor c.self.inside.more.items c.self.inside.layers.layers c.self.invariant, c.self.inside.more.ok)

pub invariant_of-self : goal.invariant_of-self
invariant_of-self c = rw (c.clear_at.ensures, c.new.ensures) (room-cleared c.self.inside.more.items c.self.inside.layers.layers c.in-Ok.index c.self.invariant)

pub returns-in-Ok : goal.returns-in-Ok
returns-in-Ok c = rw (← c.self.view_is, c.clear_at.ensures, c.new.ensures) (clear-waits c.args.name.now c.self.inside.more.items c.self.inside.layers c.in-Ok.index c.in-Ok.ensures.value)

pub returns-in-Err : goal.returns-in-Err
returns-in-Err c = (rw (← c.self.view_is) (clear-refused c.args.name.now c.self.inside.more.items c.self.inside.layers c.in-Err.refusal c.in-Err.ensures.value), refl)
