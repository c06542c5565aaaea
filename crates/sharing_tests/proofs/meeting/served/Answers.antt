use denote.Param.Send.{sendable}
use Rattle.mapshare.proofs.ReaderCrossing.{reader-send}
use Rattle.sharing_tests.proofs.meeting.served.Goals as goal

-- a reader may be sent
pub work-done-requires-send-A : goal.work-done-requires-send-A
work-done-requires-send-A g c κs within = search (reader-send, sendable)
