use Rattle.std.proofs.Common.{inr}
use Rattle.program.proofs.program.Program.serve_kept.Goals as goal

pub returns-clause-serves : goal.returns-clause-serves
returns-clause-serves g c =
    inr (record {
      machine = c.in-Ok.opened.machine;
      journal = c.in-Ok.opened.journal;
      cut = c.in-Ok.opened.cut;
      is_opened = c.in-Ok.ensures.opened;
      serves = c.serve_journal-ending.ensures.serves;
      between = _;
      told = rw c.is_told-tells.ensures at c.report_cut.ensures;
      reported = rw (c.outcome.ensures, c.cause.ensures) at c.report_end.ensures;
    })
