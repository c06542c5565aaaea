use Rattle.service.proofs.Administered.{unless-failed}
use Rattle.service.proofs.Timing.{names-cause, were-served}
use Rattle.service.proofs.threaded.serve_started.Goals as goal

pub returns-clause-kept : goal.returns-clause-kept
returns-clause-kept g c kept was other =
    unless-failed c.administer_all-admin.result.1 c.end_of-end.result.outcome _ c.end_of-end.ensures.kept (c.administer_all-admin.ensures.kept kept was) other

pub returns-clause-cause : goal.returns-clause-cause
returns-clause-cause g c =
    names-cause c.administer_all-admin.result.1 c.end_of-end.result.outcome c.end_of-end.result.cause g.K.Keeps.fails c.end_of-end.ensures.kept c.end_of-end.ensures.journal c.end_of-end.ensures.cause c.administer_all-admin.ensures.cause

pub returns-clause-clients : goal.returns-clause-clients
returns-clause-clients g c =
    were-served _ _ g.S.Sharing.opening c.args.started.clients.promise.service c.join-served.result.outcome c.end_of-end.result.outcome c.join-served.ensures.2 c.end_of-end.ensures.well
