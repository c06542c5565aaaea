use denote.Param.Send.{sendable}
use Rattle.mapshare.proofs.ReaderCrossing.{reader-send}
use Rattle.mapshare.proofs.threads.reader_crosses.Goals as goal

pub sends-requires-send-T : goal.sends-requires-send-T
sends-requires-send-T g c κs within = search (reader-send, sendable)
