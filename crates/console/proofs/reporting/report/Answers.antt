use Rattle.std.proofs.Common.{length, arith}
use Rattle.std.specs.List.{flat_map}
use Rattle.console.proofs.WholeLines.{whole-line, whole-front, after-flush}
use Rattle.console.proofs.reporting.report.Goals as goal

pub returns-in-Ok : goal.returns-in-Ok
returns-in-Ok g c =
    let line = flat_map (λ piece. piece.now) c.args.pieces.now in
    record {
      count = length line;
      bytes = whole-front _ _ line (whole-line _ _ _ _ _ line c.in-Ok.ensures.sent c.flush.ensures.kept);
      all = λ _. omega arith;
      flushed = after-flush _ _ _ _ _ c.flush.ensures.flushed c.flush.ensures.flag;
    }
