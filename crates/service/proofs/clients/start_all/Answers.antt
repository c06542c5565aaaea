use denote.Param.Send.{sendable}
use Rattle.std.proofs.Common.{◌∙◌, sym, ap, arith, length, length-append, ◌∷◌, []}
use Rattle.administration.proofs.Steps.{known-ok}
use Rattle.mapshare.proofs.ReaderCrossing.{reader-send}
use Rattle.service.proofs.clients.start_all.Goals as goal

pub start_worker-requires-send-A : goal.start_worker-requires-send-A
start_worker-requires-send-A g c κs within = search (reader-send, sendable)

pub returns-then-is_err-clause-began : goal.returns-then-is_err-clause-began
returns-then-is_err-clause-began g c = λ was. c.start_worker.ensures.began c.args.capacity.timeouts (c.loop-reader.invariant.began was) c.in-Ok.ensures.timeouts.0

pub loop-reader-preserved : goal.loop-reader-preserved
loop-reader-preserved g c = record {
  began = λ was. c.start_worker.ensures.began c.args.capacity.timeouts (c.loop-reader.invariant.began was) c.in-Ok.ensures.timeouts.0;
  all =
      let more = known-ok c.start_worker.result _ (sym c.is_err.ensures.value ∙ c.if-is_err.false) c.start_worker.ensures.more in
      let fewer = ap length c.in-Some.ensures.items ∙ length-append c.pop.new.self.items (c.in-Some.reader ∷ []) in
      omega (arith, more, fewer, c.loop-reader.invariant.all);
  count = c.start_worker.ensures.count ∙ c.loop-reader.invariant.count;
}
