use Rattle.std.specs.Prelude.{◌≡◌, ◌+◌, length, IfSome}
use Rattle.std.specs.List.{All}
use Rattle.eventloop.specs.Rounds.{HasBeen}
use Rattle.eventloop.specs.Working.{BeganWith}
use Rattle.turns.specs.Table.{timeouts_of}
use Rattle.turns.specs.declared.times.Timeouts.{Timeouts}
use Rattle.eventloop.proofs.worker_threads.join_all.Given as goal

-- those that ended so far have been, with these times, and each of the others is still to be waited for
abbrev pub invariant-loop-thread : goal.invariant-loop-thread
invariant-loop-thread g l = record {
  served : All (λ worker. HasBeen g.A.Asks.answers g.T.Transport worker) l.fn.ended.items
      → IfSome l.ended (λ workers. All (λ worker. HasBeen g.A.Asks.answers g.T.Transport worker) workers.items);
  times : (times : Timeouts) → BeganWith times l.fn.threads.items → All (λ worker. timeouts_of worker.table ≡ times) l.fn.ended.items
      → BeganWith times l.threads.items × IfSome l.ended (λ workers. All (λ worker. timeouts_of worker.table ≡ times) workers.items);
  all : IfSome l.ended (λ workers. length workers.items + length l.threads.items ≡ length l.fn.ended.items + length l.fn.threads.items);
}

abbrev pub decreases-loop-thread : goal.decreases-loop-thread
decreases-loop-thread g l = length l.threads.items
