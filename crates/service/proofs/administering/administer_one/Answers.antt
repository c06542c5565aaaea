use Rattle.std.proofs.Common.{◌≡◌, ◌∙◌, ◌-◌, sym, ap, ap₂, subst}
use Rattle.std.specs.Prelude.{IfSome}
use Rattle.administration.specs.Keeping.{IsCause}
use Rattle.administration.proofs.KeptBatches.{none_lost}
use Rattle.streams.specs.Sides.{sides_view}
use Rattle.service.proofs.Administered.{administered, cause-of, kept-of}
use Rattle.service.proofs.administering.administer_one.Goals as goal

pub returns-clause-served : goal.returns-clause-served
returns-clause-served g c =
    let done = c.administer_kept-admin in
    let taken = g.C.Writer.Sink.taken in
    let count : c.saturating_sub.result ≡ taken done.new.client.writer.inner - taken c.new-writer.result.inner =
    c.saturating_sub.ensures ∙ ap₂ ◌-◌ (c.taken.ensures ∙ ap taken c.into_inner-writer.ensures) (c.taken-before.ensures ∙ ap taken (sym c.new-writer.ensures)) in
    record {
      reader = c.in-Some.sides.reader;
      writer = c.in-Some.sides.writer;
      opened = c.in-Some.ensures;
      fault = c.fault_of-fault.result;
      rest = done.new.client.reader;
      got = c.into_inner-writer.result;
      served = rw (c.cause_of.ensures, c.fault_of-fault.ensures, c.into_inner-writer.ensures, sym c.new-writer.ensures)
          (administered (λ s. s.inner) (sides_view g.C.Reader.Source g.C.Writer.Sink) g.S.Sharing.opening done.result.1
          (record { reader = c.in-Some.sides.reader; writer = c.new-writer.result; asked = c.args.admin })
          (record { reader = done.new.client.reader; writer = done.new.client.writer; asked = done.result.0 })
          c.saturating_sub.result done.ensures.served done.ensures.stopped done.ensures.failed count);
      ended = c.close.ensures;
    }

pub returns-clause-kept : goal.returns-clause-kept
returns-clause-kept g c kept was e =
    kept-of c.administer_kept-admin.result.1 _ (c.administer_kept-admin.ensures.kept kept was) (sym c.cause_of.ensures ∙ e)

pub returns-in_default-clause-crash : goal.returns-in_default-clause-crash
returns-in_default-clause-crash g c = none_lost g.K.Keeps g.S.Sharing.opening g.met.K.Keeps.stays c.args.admin c.args.keeper.now

pub returns-clause-cause : goal.returns-clause-cause
returns-clause-cause g c = subst (λ o. IfSome o (IsCause g.K.Keeps.fails)) (sym c.cause_of.ensures) (cause-of c.administer_kept-admin.result.1 (IsCause g.K.Keeps.fails) c.administer_kept-admin.ensures.cause)
