use Rattle.std.proofs.Common.{refl}
use Rattle.eventloop.proofs.Working.{gave-way-run, made-room}
use Rattle.turns.specs.Pressure.{for_room}
use Rattle.eventloop.proofs.worker.Worker.make_room.Goals as goal

pub returns-in-Some-clause-run : goal.returns-in-Some-clause-run
returns-in-Some-clause-run g c =
    gave-way-run g.A.Asks.answers g.T.Transport c.args.self.now.now (for_room c.args.self.now.now c.args.self.now.table) c.args.self.now.table c.close_for_room-closed.new.self c.args.self.now.asks c.close_for_room-closed.result refl c.close_for_room-closed.ensures.first c.close_for_room-closed.ensures.wanted c.close_for_room-closed.ensures.left c.close_for_room-closed.ensures.goes

pub returns-in_default-clause-run : goal.returns-in_default-clause-run
returns-in_default-clause-run g c =
    gave-way-run g.A.Asks.answers g.T.Transport c.args.self.now.now (for_room c.args.self.now.now c.args.self.now.table) c.args.self.now.table c.close_for_room-closed.new.self c.args.self.now.asks c.close_for_room-closed.result refl c.close_for_room-closed.ensures.first c.close_for_room-closed.ensures.wanted c.close_for_room-closed.ensures.left c.close_for_room-closed.ensures.goes

pub returns-in-Some-clause-room : goal.returns-in-Some-clause-room
returns-in-Some-clause-room g c =
    made-room c.args.self.now.now c.args.self.now.table c.close_for_room-closed.new.self c.close_for_room-closed.result c.close_for_room-closed.ensures.goes c.close_for_room-closed.ensures.none c.close_for_room-closed.ensures.first c.close_for_room-closed.ensures.wanted c.close_for_room-closed.ensures.left

pub returns-in_default-clause-room : goal.returns-in_default-clause-room
returns-in_default-clause-room g c =
    made-room c.args.self.now.now c.args.self.now.table c.close_for_room-closed.new.self c.close_for_room-closed.result c.close_for_room-closed.ensures.goes c.close_for_room-closed.ensures.none c.close_for_room-closed.ensures.first c.close_for_room-closed.ensures.wanted c.close_for_room-closed.ensures.left
