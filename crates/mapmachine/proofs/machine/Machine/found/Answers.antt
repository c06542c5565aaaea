use Rattle.std.proofs.Common.{take}
use Rattle.mapmachine.specs.Machine.{AreAskedHits}
use Rattle.mapmachine.proofs.Asking.{next-hits, own-hits}
use Rattle.mapmachine.proofs.machine.Machine.found.Goals as goal

pub loop-layer-preserved : goal.loop-layer-preserved
loop-layer-preserved c =
    let request = c.args.request.now in
    rw (c.in_ok-push.ensures.ok)
    (next-hits (AreAskedHits c.args.self.now.map request) request.layers c.as_slice-layer-items.result.now
    c.loop-layer.layer-index c.loop-layer.found c.in_ok-hits.hits
    c.as_slice-layer-items.ensures c.loop-layer-test.true c.loop-layer.invariant c.in_ok-hits.ensures)

pub next_hits-requires-clause-found : goal.next_hits-requires-clause-found
next_hits-requires-clause-found c =
    let request = c.args.request.now in
    rw c.as_slice.ensures (own-hits c.args.self.now.map request (take c.loop-layer.layer-index request.layers) c.loop-layer.found c.loop-layer.invariant)
