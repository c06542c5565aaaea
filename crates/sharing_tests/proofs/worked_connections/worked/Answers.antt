use Rattle.std.proofs.Crossing.{crosses}
use denote.Param.Send.{sendable}
use Rattle.mapshare.proofs.Crossing.{machine-send}
use Rattle.sharing_tests.proofs.worked_connections.worked.Goals as goal

-- a machine may be sent, and so may a worker that notes its queries
pub work-done-requires-send-A : goal.work-done-requires-send-A
work-done-requires-send-A g c κs within = search (machine-send, sendable, crosses) depth 60 fits 20000
