use Rattle.std.proofs.Common.{inr, List, ℕ}
use Rattle.journalfile.specs.Settled.{GarblesNoRecord}
use Rattle.program.specs.Journals.{KeepsState, journal_view}
use Rattle.program.proofs.Journals.{has-state, served-alike, state-of}
use Rattle.program.proofs.program.Program.serve_compacted.Goals as goal

pub returns-in-Ok-clause-serves : goal.returns-in-Ok-clause-serves
returns-in-Ok-clause-serves g c =
    let view = journal_view g.H.Host.journal g.H.Host.unopened g.H.Log.Log g.H.Log.Failure.LogFailure.cause c.args.self.now.host.now in
    inr (
      c.in-Ok.served,
      c.of_compacted.ensures,
      served-alike _ _ (KeepsState view) _ c.in-Ok.served _ _
          (λ batches. has-state view ((name : List ℕ) → GarblesNoRecord g.H.Log.Log.garbled name) c.args.kept.keeper c.requires.ready.0 batches c.requires.ready.1)
          (state-of view ((name : List ℕ) → GarblesNoRecord g.H.Log.Log.garbled name) c.in-Ok.served.last)
          c.in-Ok.ensures.served,
    )
