use Rattle.std.proofs.Common.{inr}
use Rattle.journal.specs.Name.{name_bytes}
use Rattle.journalfile.specs.Settled.{GarblesNoRecord}
use Rattle.program.specs.Journals.{KeepsAll, journal_view}
use Rattle.program.proofs.Journals.{has-kept, kept-all, served-alike}
use Rattle.program.proofs.program.Program.serve_whole.Goals as goal

pub returns-in-Ok-clause-serves : goal.returns-in-Ok-clause-serves
returns-in-Ok-clause-serves g c =
    let view = journal_view g.H.Host.journal g.H.Host.unopened g.H.Log.Log g.H.Log.Failure.LogFailure.cause c.args.self.now.host.now in
    inr (
      c.in-Ok.served,
      c.of_service.ensures,
      served-alike _ _ (KeepsAll view) _ c.in-Ok.served _ _
          (λ batches. has-kept view (λ journal. GarblesNoRecord g.H.Log.Log.garbled (name_bytes journal.name)) c.args.kept.keeper c.requires.ready.0 batches c.requires.ready.1)
          (kept-all view (λ journal. GarblesNoRecord g.H.Log.Log.garbled (name_bytes journal.name)) c.in-Ok.served.last)
          c.in-Ok.ensures.served,
    )
