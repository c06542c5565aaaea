use Rattle.network.proofs.accepting.Accepting.TheSendSync as AcceptingCrosses
use Rattle.service.proofs.clients.ClientSide.TheSendSync as ClientSideCrosses
use Rattle.network.proofs.ports.PortFor.TheSendSync as PortForCrosses
use Rattle.service.proofs.signals.ClientSignals.TheSendSync as ClientSignalsCrosses
use Rattle.service.proofs.signals.StopSignal.TheSendSync as StopSignalCrosses
use Rattle.mapshare.proofs.Crossing.{fielded}
use Rattle.mapshare.proofs.ReaderCrossing.{reader-send}
use Rattle.service.proofs.starting.start_clients.Goals as goal

pub spawn_with-requires-send-F : goal.spawn_with-requires-send-F
spawn_with-requires-send-F g c κs within = search (reader-send, fielded, ClientSideCrosses.the_send, AcceptingCrosses.the_send, PortForCrosses.the_send, ClientSignalsCrosses.the_send, StopSignalCrosses.the_send) depth 60 fits 100000
