use Rattle.std.proofs.Common.{◌≡◌, ◌<◌, length, take, drop, sym, arith, subst}
use Rattle.journalfile.specs.Frames.{IsPiece}
use Rattle.journalfile.proofs.Pieces.{piece_read, read_once, room_cut}
use Rattle.journalfile.proofs.frames.read_piece.Goals as goal

pub returns-in-Ok-clause-piece : goal.returns-in-Ok-clause-piece
returns-in-Ok-clause-piece g c reliable =
    let file = g.L.Log.content c.args.log.now in
    let room = c.read_at.new.room in
    let long : length room ≡ 65536 = omega (arith, c.read_at.auto.room, c.deref_mut.ensures.len, c.in_ok-piece.ensures.len) in
    let cut : c.truncate.new.self.items ≡ take c.in-Ok.count room = room_cut c.truncate.new.self.items room (drop (length room) c.in_ok-piece.piece.items) c.in-Ok.count c.in_ok-piece.piece.len c.truncate.ensures.items (omega (arith, long, c.in_ok-piece.ensures.len)) c.in-Ok.ensures.count in
    let some : 0 < length room = omega (arith, long) in
    subst (IsPiece file c.args.offset) (sym cut) (piece_read file room c.args.offset c.in-Ok.count c.in-Ok.ensures.count some (c.in-Ok.ensures.bytes reliable) (c.in-Ok.ensures.end reliable))

pub returns-in-Ok-clause-read : goal.returns-in-Ok-clause-read
returns-in-Ok-clause-read g c reliable =
    read_once g.L.Log.content g.L.Log.may_leave g.L.Log.moment g.L.Log.left_since c.args.log.now c.read_at.new.self (g.met.L.Log.only_now reliable c.args.log.now)
    (c.in-Ok.ensures.content reliable) (c.in-Ok.ensures.crash reliable) (c.in-Ok.ensures.time reliable)

pub returns-in-Err-clause-read : goal.returns-in-Err-clause-read
returns-in-Err-clause-read g c reliable =
    read_once g.L.Log.content g.L.Log.may_leave g.L.Log.moment g.L.Log.left_since c.args.log.now c.read_at.new.self (g.met.L.Log.only_now reliable c.args.log.now)
    (c.in-Err.ensures.content reliable) (c.in-Err.ensures.crash reliable) (c.in-Err.ensures.time reliable)
