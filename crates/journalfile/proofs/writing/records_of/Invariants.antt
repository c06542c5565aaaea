use Rattle.std.proofs.Common.{◌≡◌, ◌+◌, ◌++◌, drop}
use Rattle.sha2.specs.Sha256.{sha256}
use Rattle.journal.specs.Name.{name_bytes}
use Rattle.journal.specs.Texts.{texts_of}
use Rattle.journal.specs.Record.{records}
use Rattle.journalfile.proofs.writing.records_of.Given as goal

-- the records that were added and those to be added are all
abbrev pub invariant-loop-batch : goal.invariant-loop-batch
invariant-loop-batch l = record {
  counted : l.number ≡ l.before + l.batch-index;
  all : l.out.items ++ records sha256 (name_bytes l.name) (l.number + 1) (texts_of (drop l.batch-index l.batches)) ≡ records sha256 (name_bytes l.name) (l.before + 1) (texts_of l.batches);
}
