use denote.Param.Send.{sendable}
use Rattle.mapshare.proofs.Crossing.{machine-send, machine-sync}
use Rattle.mapshare.proofs.threads.machine_crosses.Goals as goal

pub crosses-requires-send-T : goal.crosses-requires-send-T
crosses-requires-send-T c κs = search (machine-send, sendable)

pub crosses-requires-sync-T : goal.crosses-requires-sync-T
crosses-requires-sync-T c κs = search (machine-sync, sendable)
