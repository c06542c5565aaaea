use Rattle.std.proofs.Common.{◌≤◌, length}
use Rattle.network.proofs.socket_poller.SocketPollerPollerSocketTransport.wait.Given as goal

abbrev pub invariant-loop-event : goal.invariant-loop-event
invariant-loop-event l = l.count ≤ length l.room
