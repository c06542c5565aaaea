-- The effects of an administrator's client, and the lines that it gets (docs/SERVICE.md, "Administration").
use Rattle.std.specs.Prelude.{◌≡◌, ◌≢◌, ◌⊎◌, ℕ, ◌+◌, Bool, true, false, List, [], ◌∷◌, ◌++◌, length, Option, None, Some, codes}
use Rattle.std.specs.List.{list_any}
use Rattle.std.specs.Io.KnownBytes.{Consumes, IsAtEnd}
use Rattle.streams.specs.Sent.{IsSent, IsCutSomewhere}
use Rattle.streams.specs.Sides.{Attended, SidesView}
use Rattle.batches.specs.Batch.{State}
use Rattle.mapmachine.specs.declared.reply.Reply.TheVariants as reply
use Rattle.mapshare.specs.Admin.{Batches, IsAccepted, IsRefused, all_of, with_batch}
use Rattle.mapshare.specs.declared.admin.Submitted.{Submitted}
use Rattle.mapshare.specs.declared.admin.Submitted.TheVariants as submitted
use Rattle.scripts.specs.Transcript.{reply_text}
use Rattle.administration.specs.Commands.{Command, Submit, Publish, Malformed, first_command}
use Rattle.administration.specs.declared.client.Client.{Client}
use Rattle.administration.specs.declared.done.Done.{Done}
use Rattle.administration.specs.declared.done.Done.TheVariants as done

-- all of these batches are published and none is pending, and the sequence is the one after them
abbrev pub ArePublished : State → List (List ℕ) → ℕ → Batches → Type 0
ArePublished opening batches sequence new =
    (new ≡ record { published = batches; pending = [] }) × (sequence ≡ opening.sequence + length batches)

-- the result of a command. A batch is accepted after all batches before it, and published with all that is pending, or held. Or it is refused with
-- its first fault there, or out of memory. Pending batches are published or held, if there are any. A command that is refused, held or malformed
-- publishes nothing
abbrev pub HasDone : State → Batches → Command → Done → Batches → Type 0
HasDone opening old (Submit batch) (done.Published sequence) new =
    IsAccepted opening (with_batch batch old) × ArePublished opening (all_of (with_batch batch old)) sequence new
HasDone opening old (Submit batch) done.Held new = IsAccepted opening (with_batch batch old) × (new ≡ with_batch batch old)
HasDone opening old (Submit batch) (done.Refused fault) new = IsRefused opening old batch fault × (new ≡ old)
HasDone opening old (Submit batch) done.NoMemory new = new ≡ old
HasDone opening old Publish (done.Published sequence) new = (old.pending ≢ []) × ArePublished opening (all_of old) sequence new
HasDone opening old Publish done.Held new = (old.pending ≢ []) × (new ≡ old)
HasDone opening old Publish done.Idle new = (old.pending ≡ []) × (new ≡ old)
HasDone opening old Malformed done.Malformed new = new ≡ old
HasDone opening old command what new = ⊥

-- the result of a batch that was submitted: where it is published, the sequence is the one after all batches of the receipt
abbrev pub done_of : {S : Type 0} → State → Submitted S → Done
done_of opening (submitted.Published receipt) = done.Published (opening.sequence + length receipt)
done_of opening submitted.Held = done.Held
done_of opening (submitted.Refused fault) = done.Refused fault
done_of opening submitted.NoMemory = done.NoMemory

-- the line that reports the result of a command
abbrev pub done_line : Done → List ℕ
done_line (done.Published sequence) = reply_text (reply.Published sequence)
done_line done.Held = codes "HELD\n"
done_line (done.Refused fault) = reply_text (reply.Refused fault)
done_line done.NoMemory = codes "NOMEMORY\n"
done_line done.Idle = codes "IDLE\n"
done_line done.Malformed = codes "MALFORMED\n"

-- it is none of the commands
abbrev pub is_malformed : Command → Bool
is_malformed (Submit batch) = false
is_malformed Publish = false
is_malformed Malformed = true

-- the result ends the connection: the command was malformed
abbrev pub ends : Done → Bool
ends done.Malformed = true
ends what = false

module _ (opening : State) where
  -- these commands are at the start of some bytes, before a rest, and only the last may be malformed. One after the other they led from some batches to
  -- others, and these lines report that, in the same order
  abbrev pub AreDone : List Command → Batches → List ℕ → List ℕ → List ℕ → Batches → Type 0
  AreDone [] old bytes lines rest new = (rest ≡ bytes) × (lines ≡ []) × (new ≡ old)
  AreDone (command ∷ commands) old bytes lines rest new =
      (what : Done) × (between : Batches) × (others after : List ℕ)
      × (first_command bytes ≡ Some (command, after)) × (is_malformed command ≡ true → commands ≡ [])
      × HasDone opening old command what between × AreDone commands between after others rest new
      × (lines ≡ done_line what ++ others)

-- some commands, the lines that report them, and the bytes after the commands
pub record ReportedCommands : Type 0 where
  pub commands : List Command
  pub lines : List ℕ
  pub rest : List ℕ

-- a client is served: its last command was malformed; or no whole one is left, and no byte unless the reader failed
abbrev pub IsServed : List Command → List ℕ → Option (List ℕ) → Bool → Type 0
IsServed commands rest left failed =
    (list_any is_malformed commands ≡ true) ⊎ ((first_command rest ≡ None) × (IsAtEnd left ⊎ (failed ≡ true)))

module _ {R W : Type 0} (opening : State) (sides : SidesView R W) where
  -- bytes came from a client, and their commands are done
  pub record HasDoneAll (old new : Attended R W Batches) (reported : ReportedCommands) : Type 0 where
    pub bytes : List ℕ
    pub came : Consumes (sides.left old.reader) (sides.left new.reader) bytes
    pub done : AreDone opening reported.commands old.asked bytes reported.lines reported.rest new.asked

  -- all commands up to the client's end, or up to a malformed one, are done, and all of their lines were sent
  pub record HasAdministered (old new : Attended R W Batches) : Type 0 where
    pub reported : ReportedCommands
    pub done : HasDoneAll old new reported
    pub sent : IsSent sides.held sides.taken old.writer reported.lines new.writer
    pub ended : IsServed reported.commands reported.rest (sides.left new.reader) (sides.failed new.reader)

  -- the writer failed. All commands before the last are done and all of their lines were sent. None of them is malformed, since nothing is read after a
  -- malformed one. The last is done, too, and only a prefix of its line was sent
  pub record IsStopped (old new : Attended R W Batches) : Type 0 where
    pub reported : ReportedCommands
    pub between : Batches
    pub middle : W
    pub done : HasDoneAll old (record { reader = new.reader; writer = middle; asked = between }) reported
    pub well_formed : list_any is_malformed reported.commands ≡ false
    pub command : Command
    pub what : Done
    pub front : first_command reported.rest ≡ Some (command, [])
    pub then : HasDone opening between command what new.asked
    pub sent : IsSent sides.held sides.taken old.writer reported.lines middle
    pub cut : IsCutSomewhere sides.held sides.taken middle (done_line what) new.writer

-- a client of an administrator, with the batches so far
abbrev pub attended : {R W : Type 0} → Client R W → Batches → Attended R W Batches
attended client batches = record { reader = client.reader; writer = client.writer; asked = batches }

-- one after the other these batches led from some to others, and these are their results
abbrev pub AreSubmitted : State → Batches → List (List ℕ) → List Done → Batches → Type 0
AreSubmitted opening old [] [] new = new ≡ old
AreSubmitted opening old (batch ∷ batches) (what ∷ results) new =
    (between : Batches) × HasDone opening old (Submit batch) what between × AreSubmitted opening between batches results new
AreSubmitted opening old batches results new = ⊥

-- the lines of some results
abbrev pub lines_of : List Done → List ℕ
lines_of [] = []
lines_of (what ∷ results) = done_line what ++ lines_of results
