use Rattle.std.proofs.Common.{refl}
use Rattle.administration.proofs.KeptBatches.{same_kept}
use Rattle.service.proofs.threaded.serve_both.Goals as goal

pub returns-in-Err-clause-kept : goal.returns-in-Err-clause-kept
returns-in-Err-clause-kept g c kept was other = same_kept g.K.Keeps.keeps c.args.opened.admin c.args.opened.admin kept c.args.keeper.now refl was

pub returns-in-Err-start_sides-clause-kept : goal.returns-in-Err-start_sides-clause-kept
returns-in-Err-start_sides-clause-kept g c kept was other = same_kept g.K.Keeps.keeps c.args.opened.admin c.args.opened.admin kept c.args.keeper.now refl was

pub returns-clause-kept : goal.returns-clause-kept
returns-clause-kept g c kept was other = same_kept g.K.Keeps.keeps c.args.opened.admin c.args.opened.admin kept c.args.keeper.now refl was

pub returns-in-Ok-write-clause-clients : goal.returns-in-Ok-write-clause-clients
returns-in-Ok-write-clause-clients g c = rw c.in-Ok-start_sides.ensures.promised at c.serve_started.ensures.clients
