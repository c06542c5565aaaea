use Rattle.std.proofs.Common.{◌++◌}
use Rattle.std.proofs.KnownBytes.{Consumes-trans}
use Rattle.administration.specs.Commands.{Submit}
use Rattle.administration.specs.Reading.{IsLineOf}
use Rattle.administration.specs.declared.line.ClientLine.TheVariants as line
use Rattle.administration.proofs.Commands.{batch-ends, batch-is-short, ended-after, match-so}
use Rattle.administration.proofs.reading.read_command.Goals as goal

pub returns-in-Batch : goal.returns-in-Batch
returns-in-Batch g c =
    let (text, came, is) = c.in_ok-count.ensures in
    let is_batch : IsLineOf text (line.Batch c.in-Batch.count) = rw c.in-Batch.is at is in
    match-so c.read_batch.result _ _ _ _
    (λ short. let (bytes, ended, less) = short in (text ++ bytes, ended-after _ _ _ _ text bytes came ended, batch-is-short text bytes c.in-Batch.count is_batch less))
    (λ asked whole. let (bytes, taken, long, held) = whole in (text ++ bytes, Submit bytes, Consumes-trans _ _ _ text bytes came taken, batch-ends text bytes c.in-Batch.count is_batch long, held))
    c.read_batch.ensures
