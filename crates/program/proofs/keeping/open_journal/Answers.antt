use Rattle.std.proofs.Common.{inl, inr, ℕ, ◌∙◌, ap, refl}
use Rattle.std.proofs.lemmas.Result.{err_from_is_err_and}
use Rattle.compaction.specs.Compacted.{skipping}
use Rattle.journal.specs.Name.{skipped_of}
use Rattle.subcommands.specs.Session.{opened}
use Rattle.program.proofs.Journals.{fault-of-given}
use Rattle.program.proofs.keeping.open_journal.Goals as goal

pub returns-in_err-name-clause-fault : goal.returns-in_err-name-clause-fault
returns-in_err-name-clause-fault g c =
    let p = err_from_is_err_and c.from_residual-in_err-name.result c.from_residual-in_err-name.ensures.1 in
    let fault = c.in_err-name.field-0.0 in
    rw (p.1, p.2)
    (inr (
      c.in_ok-log.log,
      c.read_name.new.log,
      c.in_ok-log.ensures.given,
      fault,
      refl,
      λ reliable. inl (c.in_err-name.ensures.fault reliable),
    ))

pub returns-in_err-count-clause-fault : goal.returns-in_err-count-clause-fault
returns-in_err-count-clause-fault g c =
    let p = err_from_is_err_and c.from_residual-in_err-count.result c.from_residual-in_err-count.ensures.1 in
    let fault = c.in_err-count.field-0.0 in
    let first = c.in_ok-machine.ensures.machine ∙ ap (λ (n : ℕ). skipping n (opened c.args.map)) c.skipped.ensures in
    rw (p.1, p.2)
    (inr (
      c.in_ok-log.log,
      c.recover.new.log,
      c.in_ok-log.ensures.given,
      fault,
      refl,
      λ reliable. inr (record {
        name = c.in_ok-name.name;
        of_map = c.in_ok-name.ensures.of_map;
        named = c.in_ok-name.ensures.header reliable;
        fault = fault-of-given c.in_ok-name.name g.H.Log.Log.content c.in_ok-log.log c.read_name.new.log c.recover.new.log (skipping (skipped_of c.in_ok-name.name.compaction) (opened c.args.map)) fault (c.in_ok-name.ensures.read reliable).same
            (rw first at c.in_err-count.ensures.fault reliable);
      }),
    ))
