use Rattle.std.proofs.Common.{refl}
use Rattle.std.proofs.KnownBytes.{Keeps-refl}
use Rattle.std.proofs.lemmas.Result.{err_from_is_err_and}
use Rattle.subcommands.proofs.Serving.{ran, script-reported, unscripted}
use Rattle.subcommands.proofs.running.run.Goals as goal

pub returns-clause-runs : goal.returns-clause-runs
returns-clause-runs g c =
    rw c.in_ok-commands.ensures.same
    (ran _ c.play_on.result _ _ _ _ c.in_ok-read.read.map c.in_ok-commands.commands.items
    c.in_ok-read.ensures.map c.in_ok-commands.ensures.bytes (rw c.deref.ensures.value at c.play_on.ensures.ends) c.in_ok-read.ensures.warnings)

pub returns-in_err-commands-clause-runs : goal.returns-in_err-commands-clause-runs
returns-in_err-commands-clause-runs g c =
    let p = err_from_is_err_and c.from_residual-in_err-commands.result c.from_residual-in_err-commands.ensures.1 in
    rw (p.1, p.2)
    (unscripted _ _ _ _ _ _ c.in_ok-read.read.map c.in_ok-read.ensures.map
    (record { errors = _; warnings = c.in_ok-read.ensures.warnings }) c.in_err-commands.ensures.unread (Keeps-refl _))

pub returns-in_err-commands-clause-unread : goal.returns-in_err-commands-clause-unread
returns-in_err-commands-clause-unread g c =
    let p = err_from_is_err_and c.from_residual-in_err-commands.result c.from_residual-in_err-commands.ensures.1 in
    rw (p.1, p.2)
    (λ e. script-reported _ c.args.job.now.explains _ _ _ _ _ _ _ _ _ c.in_ok-read.read.map (record { errors = _; warnings = c.in_ok-read.ensures.warnings })
    c.in_err-commands.ensures.unread c.in_ok-read.ensures.leaves c.in_err-commands.ensures.leaves e)

pub returns-in_err-commands-clause-untouched : goal.returns-in_err-commands-clause-untouched
returns-in_err-commands-clause-untouched g c =
    let p = err_from_is_err_and c.from_residual-in_err-commands.result c.from_residual-in_err-commands.ensures.1 in
    rw (p.1, p.2) (λ e. absurd (rw e at c.in_err-commands.ensures.unread))

pub returns-in_err-commands-clause-files : goal.returns-in_err-commands-clause-files
returns-in_err-commands-clause-files g c =
    let p = err_from_is_err_and c.from_residual-in_err-commands.result c.from_residual-in_err-commands.ensures.1 in
    rw (p.1, p.2) (λ e. record { mapfile = c.in_ok-read.ensures.leaves; script = rw e at c.in_err-commands.ensures.leaves })

pub returns-in_err-commands-clause-leaves : goal.returns-in_err-commands-clause-leaves
returns-in_err-commands-clause-leaves g c =
    let p = err_from_is_err_and c.from_residual-in_err-commands.result c.from_residual-in_err-commands.ensures.1 in
    rw (p.1, p.2)
    (record {
      input = rw c.in_err-commands.ensures.neither.input refl;
      output = record { failed = rw c.in_err-commands.ensures.neither.output refl; flushed = λ e. absurd (cc) };
    })
