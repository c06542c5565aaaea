use Rattle.std.specs.List.{flat_map}
use Rattle.console.proofs.WholeLines.{whole-line, written-whole}
use Rattle.console.proofs.reporting.finish.Goals as goal

pub returns-in-Ok : goal.returns-in-Ok
returns-in-Ok g c =
    let line = flat_map (λ piece. piece.now) c.args.pieces.now in
    written-whole _ _ _ _ line (whole-line _ _ _ _ _ line c.in-Ok.ensures.sent c.flush.ensures.kept) c.in-Ok.ensures.flag c.flush.ensures
