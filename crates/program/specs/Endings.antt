-- How the program ends (docs/SERVICE.md, "The program").
use Rattle.std.specs.Prelude.{Option, None, Some, Err}
use Rattle.keepers.specs.declared.cause.LogCause.{LogCause}
use Rattle.journalfile.specs.declared.checkpoint.CompactedJournal.{CompactedJournal}
use Rattle.journalfile.specs.declared.writing.Journal.{Journal}
use Rattle.service.specs.Serving.{ServedValue}
use Rattle.console.specs.Console.{Outcome}
use Rattle.console.specs.declared.failure.Failure.TheVariants.{JournalFailed}

-- the end of a program: whether all was done, why its journal failed, if it did once it was opened, and what it served at ports, if anything, with a journal or without, or with a journal that is compacted
pub record EndingValue (P L : Type 0) : Type 0 where
  pub outcome : Outcome
  pub cause : Option LogCause
  pub served : Option (ServedValue P (Option (Journal L)))
  pub compacted : Option (ServedValue P (CompactedJournal L))

-- one that served nothing
abbrev pub unserved : {P L : Type 0} → Outcome → EndingValue P L
unserved outcome = record { outcome = outcome; cause = None; served = None; compacted = None }

-- one whose journal failed before it was served
abbrev pub unstarted : {P L : Type 0} → LogCause → EndingValue P L
unstarted cause = record { outcome = Err JournalFailed; cause = Some cause; served = None; compacted = None }

-- one that served with a journal or without
abbrev pub ended : {P L : Type 0} → ServedValue P (Option (Journal L)) → EndingValue P L
ended served = record { outcome = served.outcome; cause = served.cause; served = Some served; compacted = None }

-- one that served with a journal that is compacted
abbrev pub ended_compacted : {P L : Type 0} → ServedValue P (CompactedJournal L) → EndingValue P L
ended_compacted served = record { outcome = served.outcome; cause = served.cause; served = None; compacted = Some served }
