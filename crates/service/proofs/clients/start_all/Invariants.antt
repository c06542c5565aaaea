use Rattle.std.proofs.Common.{◌≡◌, ◌+◌, length}
use Rattle.eventloop.specs.Working.{BeganWith}
use Rattle.service.proofs.clients.start_all.Given as goal

-- the workers that were started so far began with these times, and there is one for each reader that isn't left
abbrev pub invariant-loop-reader : goal.invariant-loop-reader
invariant-loop-reader g l = record {
  began : BeganWith l.fn.capacity.timeouts l.fn.workers.threads.items → BeganWith l.fn.capacity.timeouts l.workers.threads.items;
  all : length l.workers.threads.items + length l.readers.items ≡ length l.fn.workers.threads.items + length l.fn.seats.readers.items;
  count : l.workers.count ≡ l.fn.workers.count;
}

abbrev pub decreases-loop-reader : goal.decreases-loop-reader
decreases-loop-reader g l = length l.readers.items
