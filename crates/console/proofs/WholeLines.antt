-- A line that was sent whole.
use Rattle.std.proofs.Common.{◌≡◌, ◌||◌, ℕ, Bool, true, false, List, Option, Result, Ok, Err, MatchResult, length, take, arith, take_all}
use Rattle.std.specs.Io.KnownBytes.{Appends, Keeps}
use Rattle.std.proofs.KnownBytes.{Appends-kept}
use Rattle.streams.specs.Sent.{IsSent}
use Rattle.console.specs.Console.{WriterState, Outcome, GetsLine, IsWritten, HasFlushed, is_done, is_output_failed}
use Rattle.console.specs.declared.failure.Failure.TheVariants.{MapfileFault, FileFailed, ArgumentsRefused, InputFailed, OutputFailed, ListenFailed, SocketFailed, WatchFailed, JournalFault, JournalFailed, NoMemory}

-- a flush leaves it
pub whole-line : {S : Type 0} (held : S → Option (List ℕ)) (taken : S → ℕ) (a b : S) (c : Option (List ℕ)) (line : List ℕ) → IsSent held taken a line b → Keeps (held b) c → Appends (held a) c line
whole-line held taken a b c line sent kept = Appends-kept (held a) (held b) c line sent.bytes kept

-- it is its own prefix
pub whole-front : (before after : Option (List ℕ)) (line : List ℕ) → Appends before after line → Appends before after (take (length line) line)
whole-front before after line bytes = rw (take_all (length line) line (omega arith)) bytes

-- a writer that hasn't failed was flushed
pub after-flush : {X Y : Type 0} (r : Result X Y) (flushed failed : Bool) (before was : Bool) →
    MatchResult r (λ _. flushed ≡ true) (λ _. flushed ≡ before) → MatchResult r (λ _. failed ≡ was) (λ _. failed ≡ true) → failed ≡ false → flushed ≡ true
after-flush (Ok x) flushed failed before was a b h = a
after-flush (Err y) flushed failed before was a b h = cc

-- so a line that was sent whole is written, however the flush ended
pub gets-whole : (r : Outcome) (a c : WriterState) (line : List ℕ) → Appends a.held c.held line → (is_done r || is_output_failed r) ≡ true → GetsLine r a c line
gets-whole (Ok done) a c line bytes only = bytes
gets-whole (Err OutputFailed) a c line bytes only = (length line, whole-front a.held c.held line bytes)
gets-whole (Err MapfileFault) a c line bytes only = cc
gets-whole (Err FileFailed) a c line bytes only = cc
gets-whole (Err ArgumentsRefused) a c line bytes only = cc
gets-whole (Err InputFailed) a c line bytes only = cc
gets-whole (Err SocketFailed) a c line bytes only = cc
gets-whole (Err WatchFailed) a c line bytes only = cc
gets-whole (Err JournalFault) a c line bytes only = cc
gets-whole (Err JournalFailed) a c line bytes only = cc
gets-whole (Err (ListenFailed port cause)) a c line bytes only = cc
gets-whole (Err NoMemory) a c line bytes only = cc

pub written-whole : (r : Outcome) (a b c : WriterState) (line : List ℕ) → Appends a.held c.held line → b.failed ≡ a.failed → HasFlushed r b c → IsWritten r a c line
written-whole r a b c line bytes same h = record {
  gets = gets-whole r a c line bytes h.only;
  leaves = record { failed = rw (← same) h.leaves.failed; flushed = h.leaves.flushed };
}
