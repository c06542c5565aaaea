-- The effects of an administrator's client whose batches are kept (docs/SERVICE.md, "Administration" and "Journal").
use Rattle.std.specs.Prelude.{◌≡◌, ◌⊎◌, ℕ, zero, suc, ◌-◌, ◌≤◌, false, List, [], ◌∷◌, ◌++◌, length, map, take, Option, None, Some, codes}
use Rattle.std.specs.List.{list_any}
use Rattle.streams.specs.Sent.{IsSent, IsCutSomewhere}
use Rattle.streams.specs.Sides.{Attended, SidesView}
use Rattle.batches.specs.Batch.{State}
use Rattle.keepers.specs.Crashes.{LeavesOnly}
use Rattle.keepers.specs.declared.cause.LogCause.{LogCause}
use Rattle.keepers.specs.declared.cause.LogCause.TheVariants.{Overtaken}
use Rattle.keepers.specs.declared.keeps.Keeps.{Ghosts as Keeps}
use Rattle.mapshare.specs.Admin.{Batches, IsAccepted, all_of, with_batches}
use Rattle.administration.specs.Commands.{Command, Submit}
use Rattle.administration.specs.Reading.{StartWith}
use Rattle.administration.specs.Serving.{AreDone, AreSubmitted, HasDoneAll, is_malformed, lines_of}
use Rattle.administration.specs.declared.done.Done.{Done}
use Rattle.administration.specs.declared.done.Done.TheVariants as done
use Rattle.administration.specs.declared.group.TheConstants.{MAX_GROUP}
use Rattle.administration.specs.declared.results.Front.{Front}
use Rattle.batches.specs.declared.fault.BatchError.{BatchError}
use Rattle.batches.specs.declared.fault.BatchError.TheVariants as error

-- the batches accepted from one state to a later one are kept, after those kept before
abbrev pub IsKeptSince : {K : Type 0} → (K → List (List ℕ) → Type 0) → Batches → List (List ℕ) → Batches → K → Type 0
IsKeptSince keeps old kept new keeper = (more : List (List ℕ)) × (all_of new ≡ all_of old ++ more) × keeps keeper (kept ++ more)

-- a file stands for the batches that were kept, and some that are accepted after them
abbrev pub StandsForAccepted : {K : Type 0} → State → Batches → (K → List ℕ → List (List ℕ) → Type 0) → K → List (List ℕ) → List ℕ → Type 0
StandsForAccepted opening old stands keeper kept file = (more : List (List ℕ)) × IsAccepted opening (with_batches more old) × stands keeper file (kept ++ more)

-- no batch is lost between one state of an administrator and its keeper and a later one: those that were accepted still are, and whatever a crash at any
-- moment leaves stands for those that were kept, and some that are accepted after them
pub record NoneLost {K : Type 0} (known : Keeps K) (opening : State) (old : Batches) (before : K) (new : Batches) (after : K) : Type 0 where
  pub accepted : IsAccepted opening old → IsAccepted opening new
  pub same_file : (file : List ℕ) (batches : List (List ℕ)) → known.stands after file batches → known.stands before file batches
  pub any_moment : known.reliable → IsAccepted opening old → (kept : List (List ℕ)) → known.keeps before kept
      → LeavesOnly known.moment known.left_since before after (StandsForAccepted opening old known.stands before kept)

-- a call of the keeper failed for this cause, or its batches couldn't follow those of the history
abbrev pub IsCause : (LogCause → Type 0) → LogCause → Type 0
IsCause fails cause = fails cause ⊎ (cause ≡ Overtaken)

-- the results of so many batches that were accepted together: published, with the sequence after the last of them, or pending
abbrev pub accepted_results : Option ℕ → ℕ → List Done
accepted_results sequence zero = []
accepted_results None (suc count) = done.Held ∷ accepted_results None count
accepted_results (Some last) (suc count) = done.Published (last - count) ∷ accepted_results (Some last) count

-- the result of the batch after them, if it isn't accepted
abbrev pub refused_results : Option BatchError → List Done
refused_results None = []
refused_results (Some (error.Fault fault)) = done.Refused fault ∷ []
refused_results (Some error.NoMemory) = done.NoMemory ∷ []

abbrev pub results_of : Front → List Done
results_of front = accepted_results front.sequence front.accepted ++ refused_results front.refused

-- some first of these batches have no fault, one at least; the keeper failed
abbrev pub HasFailed : State → Batches → List (List ℕ) → Type 0
HasFailed opening old batches = (count : ℕ) × (1 ≤ count) × (count ≤ length batches) × IsAccepted opening (with_batches (take count batches) old)

-- the lines that report this, one for each of so many batches
abbrev pub failed_lines : ℕ → List ℕ
failed_lines zero = []
failed_lines (suc count) = codes "FAILED\n" ++ failed_lines count

-- the lines were sent, or the first bytes of them, where the writer failed
abbrev pub IsReported : {O : Type 0} → (O → Option (List ℕ)) → (O → ℕ) → O → List ℕ → O → Type 0
IsReported held taken old lines new = IsSent held taken old lines new ⊎ IsCutSomewhere held taken old lines new

module _ {R W : Type 0} (opening : State) (sides : SidesView R W) where
  -- some commands are done, none of them malformed, and all of their lines were sent. The bytes after them were read, too
  pub record HasSent (old new : Attended R W Batches) (bytes : List ℕ) : Type 0 where
    pub commands : List Command
    pub lines : List ℕ
    pub done : HasDoneAll opening sides old new (record { commands = commands; lines = lines; rest = bytes })
    pub well_formed : list_any is_malformed commands ≡ false
    pub sent : IsSent sides.held sides.taken old.writer lines new.writer

  -- the writer failed: of the commands that were read last, 64 at most, all are done, and only the first bytes of their lines were sent
  pub record IsCutShort (old new : Attended R W Batches) : Type 0 where
    pub bytes : List ℕ
    pub between : Batches
    pub middle : W
    pub earlier : HasSent old (record { reader = new.reader; writer = middle; asked = between }) bytes
    pub commands : List Command
    pub lines : List ℕ
    pub rest : List ℕ
    pub done : AreDone opening commands between bytes lines rest new.asked
    pub few : length commands ≤ MAX_GROUP
    pub cut : IsCutSomewhere sides.held sides.taken middle lines new.writer

  -- the keeper failed: of the batches that were read last, 64 at most, the first are done. Each of the others may be kept or not, and none of them is
  -- published. The lines of all were sent, or the first bytes of them, where the writer failed, too
  pub record IsFailed (old new : Attended R W Batches) : Type 0 where
    pub bytes : List ℕ
    pub between : Batches
    pub middle : W
    pub earlier : HasSent old (record { reader = new.reader; writer = middle; asked = between }) bytes
    pub batches : List (List ℕ)
    pub failed : List (List ℕ)
    pub results : List Done
    pub rest : List ℕ
    pub begins : StartWith (map Submit (batches ++ failed)) bytes rest
    pub few : length (batches ++ failed) ≤ MAX_GROUP
    pub done : AreSubmitted opening between batches results new.asked
    pub fails : HasFailed opening new.asked failed
    pub reported : IsReported sides.held sides.taken middle (lines_of results ++ failed_lines (length failed)) new.writer
