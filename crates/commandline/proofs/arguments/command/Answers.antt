use Rattle.std.proofs.Common.{◌≡◌}
use Rattle.clap.specs.Words.{app_of, kind_of}
use Rattle.commandline.specs.Arguments.{app, is_refusal}
use Rattle.clap.specs.declared.error.kind.ErrorKind.TheVariants.{OutOfMemory}
use Rattle.commandline.proofs.Matched.{given, not-taken, on-ok, parsed, taken}
use Rattle.commandline.proofs.arguments.command.Goals as goal

pub returns-in-Err-clause-refused : goal.returns-in-Err-clause-refused
returns-in-Err-clause-refused c =
    not-taken (app_of c.in-Ok.commands) app _ (is_refusal c.refusal.result) (kind_of c.in-Err.error ≡ OutOfMemory) c.in-Ok.ensures c.in-Err.ensures.passes c.refusal.ensures

pub returns-in-Ok-try_get_matches_from-clause-command : goal.returns-in-Ok-try_get_matches_from-clause-command
returns-in-Ok-try_get_matches_from-clause-command c =
    let sub = parsed _ _ _ c.in-Ok.ensures c.in-Ok-try_get_matches_from.ensures.matches in
    rw c.ok_or.ensures.value (given c.command_of.result _ _ (rw sub at c.command_of.ensures))

pub returns-in-Ok-try_get_matches_from-clause-taken : goal.returns-in-Ok-try_get_matches_from-clause-taken
returns-in-Ok-try_get_matches_from-clause-taken c = on-ok c.ok_or.result _ (taken _ _ c.in-Ok.ensures c.in-Ok-try_get_matches_from.ensures.kinds)
