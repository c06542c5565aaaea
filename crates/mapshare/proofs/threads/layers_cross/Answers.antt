use denote.Param.Send.{sendable}
use Rattle.mapshare.proofs.Crossing.{layers-send, layers-sync}
use Rattle.mapshare.proofs.threads.layers_cross.Goals as goal

pub crosses-requires-send-T : goal.crosses-requires-send-T
crosses-requires-send-T c κs = search (layers-send, sendable)

pub crosses-requires-sync-T : goal.crosses-requires-sync-T
crosses-requires-sync-T c κs = search (layers-sync, sendable)
