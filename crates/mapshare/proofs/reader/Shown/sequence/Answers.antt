use Rattle.std.proofs.Common.{◌∙◌, ap}
use Rattle.batches.specs.Batch.{State, accepted}
use Rattle.mapmachine.proofs.Counting.{accepted_counts}
use Rattle.sharing.proofs.Counting.{after_counts}
use Rattle.mapshare.proofs.reader.Shown.sequence.Goals as goal

pub returns : goal.returns
returns g c =
    let shown = c.self.inside.reading.part.value in
    c.sequence.ensures ∙ (ap (λ e. e.machine.sequence) c.get.ensures ∙ rw (← c.self.view_is) (after_counts accepted (λ (s : State). s.sequence) accepted_counts g.S.Sharing.opening shown.machine shown.prefix c.self.invariant.0))
