use Rattle.std.proofs.Common.{Ok, Err, subst}
use Rattle.batches.specs.Batch.{State}
use Rattle.mapdefs.specs.declared.map.MapFields.{MapFields}
use Rattle.wmsquery.specs.Meaning.{IsMeaning, IsMeaningError}
use Rattle.mapmachine.proofs.Answering.{answered}
use Rattle.mapmachine.proofs.machine.Machine.reply.Goals as goal

pub returns-in-Ok : goal.returns-in-Ok
returns-in-Ok c =
    answered c.args.self.now c.args.query.now (Ok c.in-Ok.request) c.request_answer.result
    (subst (λ (s : State). IsMeaning s.map s.sequence c.args.query.now (Ok c.in-Ok.request)) c.self.view_is
    (subst (λ (m : MapFields). IsMeaning m c.self.inside.sequence c.args.query.now (Ok c.in-Ok.request)) c.map.ensures c.in-Ok.ensures.request))
    c.request_answer.ensures

pub returns-in-Err-Fault : goal.returns-in-Err-Fault
returns-in-Err-Fault c =
    answered c.args.self.now c.args.query.now (Err c.in-Err-Fault.fault) c.exception_answer.result
    (subst (IsMeaningError c.args.self.now.map c.args.self.now.sequence c.args.query.now) c.in-Err-Fault.field-0-is
    (subst (λ (s : State). IsMeaningError s.map s.sequence c.args.query.now c.in-Err-Fault.field-0) c.self.view_is
    (subst (λ (m : MapFields). IsMeaningError m c.self.inside.sequence c.args.query.now c.in-Err-Fault.field-0) c.map.ensures c.in-Err-Fault.ensures.fault)))
    c.exception_answer.ensures
