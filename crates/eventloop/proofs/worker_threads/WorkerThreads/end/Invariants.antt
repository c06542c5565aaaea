use Rattle.eventloop.proofs.worker_threads.WorkerThreads.end.Given as goal

abbrev pub invariant-loop-handover : goal.invariant-loop-handover
invariant-loop-handover g l = Unit {0}
