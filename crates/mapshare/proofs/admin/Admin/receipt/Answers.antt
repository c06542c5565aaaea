use Rattle.std.proofs.Common.{◌≡◌, ◌∙◌, ◌+◌, ◌++◌, length, drop, ap, sym}
use Rattle.mapshare.proofs.Chains.{idle_last}
use Rattle.batches.specs.Batch.{State, accepted}
use Rattle.mapmachine.proofs.Counting.{accepted_counts}
use Rattle.sharing.proofs.Counting.{after_counts}
use Rattle.mapshare.proofs.admin.Admin.receipt.Goals as goal

pub new-requires : goal.new-requires
new-requires g c =
    let a = c.self.inside in
    let waiting = drop a.writer.behind a.writer.log.items ++ a.queue.items in
    let none = ap (λ b. b.pending) c.self.view_is ∙ c.requires.idle in
    let same : a.last ≡ a.published = idle_last g.S.Sharing.opening a.published waiting a.last c.self.invariant.1 none in
    record { counted = c.sequence.ensures ∙ (after_counts accepted (λ (s : State). s.sequence) accepted_counts g.S.Sharing.opening a.checked a.last c.self.invariant.2 ∙ ap (λ l. g.S.Sharing.opening.sequence + length l) (same ∙ sym c.copy.ensures)) }
