use Rattle.std.proofs.Common.{◌≡◌, map, take}
use Rattle.journal.specs.Fingerprint.{file_message}
use Rattle.program.specs.Journals.{given_message}
use Rattle.program.proofs.keeping.used_files.Given as goal

-- the files so far are digested as they are given
abbrev pub invariant-loop-file : goal.invariant-loop-file
invariant-loop-file l = map file_message l.used.items ≡ map given_message (take l.file-index l.given)
