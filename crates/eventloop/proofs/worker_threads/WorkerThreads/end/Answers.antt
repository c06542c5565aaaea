use Rattle.std.proofs.Common.{rules}
use Rattle.eventloop.proofs.worker_threads.WorkerThreads.end.Goals as goal

pub returns-clause-times : goal.returns-clause-times
returns-clause-times g c = λ times began. c.join_all.ensures.times times began (search rules)
