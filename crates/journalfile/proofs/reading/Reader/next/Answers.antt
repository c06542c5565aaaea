use Rattle.std.proofs.Common.{◌≡◌, ◌+◌, ◌++◌, drop, refl}
use Rattle.sha2.specs.Sha256.{sha256}
use Rattle.journal.specs.Name.{name_bytes}
use Rattle.journal.specs.Record.{sequence_bytes, record_of}
use Rattle.journalfile.proofs.Batches.{has_next}
use Rattle.journalfile.specs.declared.reading.Reader.{Reader}
use Rattle.journalfile.proofs.reading.Reader.next.Goals as goal

pub returns-clause-read : goal.returns-clause-read
returns-clause-read g c reliable all done left has =
    let file = g.L.Log.content c.args.log.now in
    let old = c.args.self.now in
    let batch = c.in-Some.batch.items in
    let new : Reader = record { frames = c.next_record.new.frames; name = old.name; number = old.number + 1; commands = old.commands } in
    let found : drop old.frames.position file ≡ record_of sha256 (name_bytes old.name) (sequence_bytes (old.number + 1)) batch ++ drop new.frames.position file =
    rw c.in-Some.is at c.in_ok-batch.ensures.record reliable in
    has_next file all done left batch old new has found refl refl
