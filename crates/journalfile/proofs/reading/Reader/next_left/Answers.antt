use Rattle.std.proofs.Common.{◌≡◌, ℕ, List, ◌++◌, length, sym, ◌∙◌, refl, ap, subst}
use Rattle.batches.specs.declared.command.Command.{Command}
use Rattle.compaction.specs.Compacted.{commands_in, compacted_batch}
use Rattle.compaction.specs.LastChanges.{AreLast}
use Rattle.journalfile.proofs.Batches.{left_next}
use Rattle.journalfile.specs.declared.reading.Reader.{Reader}
use Rattle.journalfile.proofs.reading.Reader.next_left.Goals as goal

pub returns-clause-left : goal.returns-clause-left
returns-clause-left g c reliable all written last has =
    let file = g.L.Log.content c.args.log.now in
    let batch = c.in_ok-batch.batch.items in
    let piece = c.add_left.new.out.items in
    let between = c.next.new.self in
    let new : Reader = record { frames = between.frames; name = between.name; number = between.number; commands = c.in_ok-self.field-0 } in
    let added : (earlier later : List Command) → AreLast c.args.changes.now (earlier ++ (commands_in batch ++ later)) → c.args.self.now.commands ≡ length earlier
    → (piece ≡ compacted_batch batch later) × (c.in_ok-self.field-0 ≡ length (earlier ++ commands_in batch)) =
    λ earlier later are counted.
    let slice = c.as_slice.ensures.value in
    let found = c.in_ok-self.ensures earlier later (subst (λ (l : List ℕ). AreLast c.args.changes.now (earlier ++ (commands_in l ++ later))) (sym slice) are) (c.in_ok-batch.ensures.commands ∙ counted) in (
      found.0 ∙ ap (λ (l : List ℕ). l ++ compacted_batch c.as_slice.result.now later) c.new-left.ensures.items ∙ ap (λ (l : List ℕ). compacted_batch l later) slice,
      found.1 ∙ ap (λ (l : List ℕ). length (earlier ++ commands_in l)) slice,
    ) in
    left_next file all written c.args.self.now between new batch piece (AreLast c.args.changes.now) last added has
    (c.in_ok-batch.ensures.read reliable all has.done has.left has.read) refl refl refl
