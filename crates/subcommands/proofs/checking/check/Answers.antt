use Rattle.std.proofs.lemmas.Result.{err_from_is_err_and}
use Rattle.subcommands.proofs.Serving.{unreported, unsummed}
use Rattle.subcommands.proofs.checking.check.Goals as goal

pub returns-in_err-write_summary-clause-checks : goal.returns-in_err-write_summary-clause-checks
returns-in_err-write_summary-clause-checks g c =
    let p = err_from_is_err_and c.from_residual-in_err-write_summary.result c.from_residual-in_err-write_summary.ensures.1 in
    rw (p.1, p.2, c.in_ok-read.ensures.same)
    (unsummed _ _ _ _ _ _ c.in_ok-read.read.map c.in_ok-read.ensures.map c.in_err-write_summary.ensures.sums (unreported _))
