use Rattle.std.proofs.Common.{◌≡◌, length, drop, arith, rules}
use Rattle.std.proofs.lemmas.List.{length-drop}
use Rattle.journalfile.specs.Frames.{IsAhead}
use Rattle.journalfile.proofs.Pieces.{piece_ahead}
use Rattle.journalfile.proofs.frames.Frames.fill.Goals as goal

pub returns-clause-ahead : goal.returns-clause-ahead
returns-clause-ahead g c reliable =
    let file = g.L.Log.content c.args.log.now in
    let before = drop c.self.inside.taken c.self.inside.piece.items in
    let none : length before ≡ 0 = omega (arith, length-drop c.self.inside.taken c.self.inside.piece.items, c.len.ensures, c.if-self-len.false) in
    let ahead : IsAhead file (record { position = c.self.inside.position; bytes = before }) = search rules in
    piece_ahead file c.in_ok-piece.piece.items before c.self.inside.position none ahead (c.in_ok-piece.ensures.piece reliable)
