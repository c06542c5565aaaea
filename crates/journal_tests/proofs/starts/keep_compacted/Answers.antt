use Rattle.std.proofs.Common.{◌++◌}
use Rattle.journal.specs.Name.{skipped_of}
use Rattle.journalfile.proofs.Skipping.{empties, empties_short}
use Rattle.journal_tests.proofs.starts.keep_compacted.Goals as goal

pub keep_each-requires : goal.keep_each-requires
keep_each-requires c =
    let settled = rw c.in-Some.is at c.in_ok-journal.ensures.settled in
    let bounded = rw c.in-Some.is at c.in_ok-journal.ensures.bounded in
    let skipped = skipped_of c.in-Some.field-0.journal.name.compaction in
    record {
      ready = (
        empties skipped ++ settled.0,
        λ reliable. (
          λ name left garbled. absurd garbled,
          record { own = settled.0; settled = settled.1 reliable; short = empties_short skipped settled.0; bounded = bounded },
        ),
      );
    }
