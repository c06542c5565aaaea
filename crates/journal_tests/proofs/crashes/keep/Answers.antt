use Rattle.std.proofs.Common.{rules}
use Rattle.journalfile.proofs.Lengths.{noted_length}
use Rattle.journal_tests.proofs.crashes.keep.Goals as goal

pub put-requires-clause-settled : goal.put-requires-clause-settled
put-requires-clause-settled c reliable =
    let found = c.in-Ok.ensures.recovered in
    (found.batches, record { file = found.journal reliable; count = found.counted; enough = found.enough; durable = found.durable reliable; noted = noted_length _ _ (found.long reliable) (search rules) })
