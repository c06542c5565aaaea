use Rattle.std.proofs.Crossing.{crosses}
use denote.Param.Send.{sendable}
use Rattle.mapshare.proofs.Crossing.{machine-send}
use Rattle.sharing_tests.proofs.worked_connections.result_without_workers.Goals as goal

-- a machine may be sent
pub work-done-requires-send-A : goal.work-done-requires-send-A
work-done-requires-send-A g c κs within = search (machine-send, sendable, crosses)
