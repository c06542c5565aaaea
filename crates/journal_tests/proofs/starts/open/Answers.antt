use Rattle.std.proofs.Common.{rules}
use Rattle.journalfile.proofs.Lengths.{noted_length}
use Rattle.journal_tests.proofs.starts.open.Goals as goal

pub returns-clause-settled : goal.returns-clause-settled
returns-clause-settled g c =
    let found = c.in-Ok-recover.ensures.recovered in
    (found.batches, λ reliable. record { file = found.journal reliable; count = found.counted; enough = found.enough; durable = found.durable reliable; noted = noted_length _ _ (found.long reliable) (search rules) })
