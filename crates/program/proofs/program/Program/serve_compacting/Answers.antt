use Rattle.std.proofs.Common.{inl, inr, refl, sym}
use Rattle.program.proofs.program.Program.serve_compacting.Goals as goal

pub serve_compacted-requires-clause-ready : goal.serve_compacted-requires-clause-ready
serve_compacted-requires-clause-ready g c κs lives = (
  c.requires.ready.0,
  λ reliable. ((c.requires.ready.1 reliable).0, c.in-Ok.ensures.has reliable c.requires.ready.0 (c.requires.ready.1 reliable).1),
)

pub returns-in-Ok-clause-serves : goal.returns-in-Ok-clause-serves
returns-in-Ok-clause-serves g c =
    inr (
      c.compact_where_due.new.self,
      record {
        early = c.in-Ok.ensures.early;
        next = c.in-Ok.ensures.next;
        has = λ batches all reliable. c.in-Ok.ensures.has reliable batches (all reliable);
      },
      c.serve_compacted.ensures.serves,
    )

pub returns-in-Err-clause-serves : goal.returns-in-Err-clause-serves
returns-in-Err-clause-serves g c = inl (c.cause.result, (c.in-Err.failure, sym c.cause.ensures), c.of_journal.ensures, refl)
