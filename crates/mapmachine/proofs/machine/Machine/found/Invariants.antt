use Rattle.std.proofs.Common.{take}
use Rattle.std.specs.List.{AllZip}
use Rattle.mapmachine.specs.Machine.{AreAskedHits}
use Rattle.mapmachine.proofs.machine.Machine.found.Given as goal

-- so far each layer has its hits
abbrev pub invariant-loop-layer : goal.invariant-loop-layer
invariant-loop-layer l = AllZip (AreAskedHits l.fn.self.map l.fn.request) (take l.layer-index l.fn.request.layers) l.found
