use Rattle.std.proofs.Common.{◌≡◌, rules}
use Rattle.std.proofs.lemmas.List.Elements.{All-push, All-same}
use Rattle.turns.specs.Table.{timeouts_of}
use Rattle.eventloop.proofs.worker_threads.start_worker.Goals as goal

-- one thread more, whose worker begins with these times
pub returns-in-Ok-push-clause-began : goal.returns-in-Ok-push-clause-began
returns-in-Ok-push-clause-began g c =
    λ times old is.
    All-same (λ thread. timeouts_of thread.promise.begun.value.table ≡ times) _ _ (search rules)
    (All-push (λ thread. timeouts_of thread.promise.begun.value.table ≡ times) c.args.workers.now.threads.items c.in-Ok-spawn_with.thread old (search rules))

pub returns-in-Ok-spawn_with-clause-began : goal.returns-in-Ok-spawn_with-clause-began
returns-in-Ok-spawn_with-clause-began g c = λ times old is. All-same (λ thread. timeouts_of thread.promise.begun.value.table ≡ times) _ c.args.workers.now.threads.items (search rules) old
