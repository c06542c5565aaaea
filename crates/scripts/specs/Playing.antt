-- The text that playing a script writes (docs/SERVICE.md, "Sessions").
use Rattle.std.specs.Prelude.{◌≡◌, ℕ, ◌<◌, ◌≤◌, List, [], ◌∷◌, ◌++◌, length, take, Option, Result, Ok, Err}
use Rattle.std.specs.Io.KnownBytes.{Appends}
use Rattle.batches.specs.Batch.{State}
use Rattle.mapmachine.specs.Machine.{Runs}
use Rattle.mapmachine.specs.declared.reply.Event.{Event}
use Rattle.mapmachine.specs.declared.reply.Reply.{Reply}
use Rattle.scripts.specs.Script.{script_of}
use Rattle.scripts.specs.Transcript.{transcript, script_fault}

-- some replies to the events lead from a state to another, and this is their text
pub record IsPlayed (old : State) (events : List Event) (new : State) (text : List ℕ) : Type 0 where
  pub replies : List Reply
  pub run : Runs old events replies new
  pub written : text ≡ transcript replies

-- an unreadable script plays nothing, and its fault is written
pub record IsRefused (number : ℕ) (old new : State) (text : List ℕ) : Type 0 where
  pub state : new ≡ old
  pub written : text ≡ script_fault number

-- the text of a script, by its events or its fault
abbrev pub IsSessionOf : State → Result (List Event) ℕ → State → List ℕ → Type 0
IsSessionOf old (Ok events) new text = IsPlayed old events new text
IsSessionOf old (Err number) new text = IsRefused number old new text

-- playing a script leads from a state to another, and this is the whole transcript
abbrev pub IsTranscript : State → List ℕ → State → List ℕ → Type 0
IsTranscript old script new text = IsSessionOf old (script_of script) new text

-- all of a transcript of the script was sent
pub record HasPlayed (old : State) (script : List ℕ) (new : State) (before after : Option (List ℕ)) : Type 0 where
  pub text : List ℕ
  pub transcript : IsTranscript old script new text
  pub bytes : Appends before after text

-- the events up to one were played, and of the replies to them only so many bytes were sent, which end within the reply to this one
pub record HasStopped (old : State) (events : List Event) (new : State) (before after : Option (List ℕ)) (written : ℕ) : Type 0 where
  pub done : List Event
  pub event : Event
  pub left : List Event
  pub parts : events ≡ done ++ (event ∷ left)
  pub replies : List Reply
  pub reply : Reply
  pub run : Runs old (done ++ event ∷ []) (replies ++ reply ∷ []) new
  pub reached : length (transcript replies) ≤ written
  pub short : written < length (transcript (replies ++ reply ∷ []))
  pub bytes : Appends before after (take written (transcript (replies ++ reply ∷ [])))

-- nothing was played, and only so many bytes of a script's fault were sent
pub record HasPartlyRefused (number : ℕ) (old new : State) (before after : Option (List ℕ)) (written : ℕ) : Type 0 where
  pub state : new ≡ old
  pub short : written < length (script_fault number)
  pub bytes : Appends before after (take written (script_fault number))

-- where writing stopped, by the events of the script or its fault
abbrev pub HasStoppedIn : State → Result (List Event) ℕ → State → Option (List ℕ) → Option (List ℕ) → ℕ → Type 0
HasStoppedIn old (Ok events) new before after written = HasStopped old events new before after written
HasStoppedIn old (Err number) new before after written = HasPartlyRefused number old new before after written

-- exactly the first so many bytes of the text that playing the script writes were sent, and not all
abbrev pub HasPartlyPlayed : State → List ℕ → State → Option (List ℕ) → Option (List ℕ) → ℕ → Type 0
HasPartlyPlayed old script new before after written = HasStoppedIn old (script_of script) new before after written
