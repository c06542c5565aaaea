use Rattle.std.proofs.Common.{◌++◌}
use Rattle.journal.specs.Name.{name_bytes, skipped_of}
use Rattle.journalfile.proofs.Skipping.{empties}
use Rattle.program.proofs.Journals.{of-some, settled-has}
use Rattle.program.proofs.program.Program.serve_journal.Goals as goal

pub serve_whole-requires-clause-ready : goal.serve_whole-requires-clause-ready
serve_whole-requires-clause-ready g c κs lives = (
  c.requires.settled.0,
  λ reliable. (c.requires.recognised reliable (name_bytes c.args.kept.keeper.name), c.requires.settled.1 reliable),
)

pub serve_compacting-requires-clause-ready : goal.serve_compacting-requires-clause-ready
serve_compacting-requires-clause-ready g c κs lives = (
  empties (skipped_of c.args.kept.keeper.name.compaction) ++ c.requires.settled.0,
  λ reliable. (c.requires.recognised reliable, settled-has _ _ c.args.kept.keeper c.requires.settled.0 c.requires.bounded (c.requires.settled.1 reliable)),
)

pub returns-clause-serves : goal.returns-clause-serves
returns-clause-serves g c = of-some c.args.journaled.service.checkpoint _ _ c.if-service-eq0.false (rw (c.checkpoint_of-checkpoint.ensures, c.is_told.ensures) at c.serve_compacting.ensures.serves)
