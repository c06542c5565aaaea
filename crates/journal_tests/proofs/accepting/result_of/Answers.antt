use Rattle.std.proofs.Common.{rules}
use Rattle.journalfile.proofs.Lengths.{noted_length}
use Rattle.journal_tests.proofs.accepting.result_of.Goals as goal

pub accept-requires-clause-ready : goal.accept-requires-clause-ready
accept-requires-clause-ready g c =
    let found = c.in-Ok.ensures.recovered in
    (found.batches, λ reliable. (λ left garbled. absurd garbled, record { file = found.journal reliable; count = found.counted; enough = found.enough; durable = found.durable reliable; noted = noted_length _ _ (found.long reliable) (search rules) }))
