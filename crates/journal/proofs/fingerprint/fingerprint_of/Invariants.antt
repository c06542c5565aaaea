use Rattle.std.proofs.Common.{◌≡◌, ◌++◌, ℕ, List, drop}
use Rattle.sha2.specs.Hashers.{Holds256}
use Rattle.journal.specs.Fingerprint.{files_message, sized}
use Rattle.journal.proofs.fingerprint.fingerprint_of.Given as goal

-- the files that were added and those left are all
abbrev pub invariant-loop-file : goal.invariant-loop-file
invariant-loop-file l =
    (message : List ℕ) × Holds256 l.hasher message × (message ++ files_message (drop l.file-index l.files) ≡ sized l.mapfile ++ files_message l.files)
