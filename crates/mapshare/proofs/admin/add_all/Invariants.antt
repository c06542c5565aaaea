use Rattle.std.proofs.Common.{◌≡◌, ◌++◌, take}
use Rattle.journal.specs.Texts.{texts_of}
use Rattle.mapshare.proofs.admin.add_all.Given as goal

-- the batches so far were added
abbrev pub invariant-loop-batch : goal.invariant-loop-batch
invariant-loop-batch g l = l.prefix ≡ l.fn.prefix ++ texts_of (take l.batch-index l.batches)
