use Rattle.std.proofs.Common.{refl}
use Rattle.administration.proofs.KeptBatches.{none_lost, same_kept}
use Rattle.service.proofs.threaded.serve_logged.Goals as goal

pub returns-in-Err-clause-kept : goal.returns-in-Err-clause-kept
returns-in-Err-clause-kept g c kept was other =
    rw c.into_admin.ensures (same_kept g.K.Keeps.keeps c.args.opened.admin c.args.opened.admin kept c.args.keeper.now refl was)

pub returns-clause-kept : goal.returns-clause-kept
returns-clause-kept g c kept was other = rw c.logged.ensures.0 at (c.serve_both-served.ensures.kept kept was other)

pub returns-in-Err-clause-crash : goal.returns-in-Err-clause-crash
returns-in-Err-clause-crash g c = rw c.into_admin.ensures (none_lost g.K.Keeps g.S.Sharing.opening g.met.K.Keeps.stays c.args.opened.admin c.args.keeper.now)

pub returns-clause-clients : goal.returns-clause-clients
returns-clause-clients g c = rw c.logged.ensures.1 at c.serve_both-served.ensures.clients
