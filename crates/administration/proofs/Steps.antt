-- The client of an administrator, command by command.
use Rattle.std.proofs.Common.{◌≡◌, ℕ, Bool, ◌||◌, true, false, List, [], ◌∷◌, ◌++◌, Option, None, Some, inl, inr, refl, append_assoc, append-nil}
use Rattle.std.specs.Prelude.{Result, Ok, Err, IfNone, OnOk, OnErr, MatchResult, MatchOption}
use Rattle.std.specs.Result.{is_err}
use Rattle.std.proofs.KnownBytes.{Consumes-nil, Consumes-trans}
use Rattle.std.proofs.lemmas.List.Folds.{list_any-append}
use Rattle.std.specs.Io.KnownBytes.{Consumes}
use Rattle.std.specs.List.{list_any}
use Rattle.streams.specs.Sent.{IsSent, IsCutSomewhere}
use Rattle.streams.specs.Sides.{Attended, SidesView}
use Rattle.streams.proofs.Sending.{nothing-sent, sent-sent}
use Rattle.batches.specs.Batch.{State}
use Rattle.mapshare.specs.Admin.{Batches}
use Rattle.administration.specs.Commands.{Command, Submit, Publish, Malformed, first_command}
use Rattle.administration.specs.Reading.{HasEnded, IsCommandOf}
use Rattle.administration.specs.Serving.{AreDone, HasAdministered, HasDone, HasDoneAll, IsStopped, done_line, ends, is_malformed}
use Rattle.administration.specs.declared.done.Done.{Done}
use Rattle.administration.specs.declared.done.Done.TheVariants as done

-- a result that ends the connection is of a malformed command
pub malformed-ends : (opening : State) (a b : Batches) (command : Command) (what : Done) → HasDone opening a command what b → ends what ≡ true → is_malformed command ≡ true
malformed-ends opening a b Malformed what h e = refl
malformed-ends opening a b (Submit batch) done.Malformed h e = absurd h
malformed-ends opening a b Publish done.Malformed h e = absurd h
malformed-ends opening a b (Submit batch) (done.Published s) h e = cc
malformed-ends opening a b (Submit batch) done.Held h e = cc
malformed-ends opening a b (Submit batch) (done.Refused f) h e = cc
malformed-ends opening a b (Submit batch) done.NoMemory h e = cc
malformed-ends opening a b (Submit batch) done.Idle h e = cc
malformed-ends opening a b Publish (done.Published s) h e = cc
malformed-ends opening a b Publish done.Held h e = cc
malformed-ends opening a b Publish (done.Refused f) h e = cc
malformed-ends opening a b Publish done.NoMemory h e = cc
malformed-ends opening a b Publish done.Idle h e = cc

-- a command that isn't malformed goes on
pub others-go-on : (opening : State) (a b : Batches) (command : Command) (what : Done) → HasDone opening a command what b → ends what ≡ false → is_malformed command ≡ false
others-go-on opening a b (Submit batch) what h e = refl
others-go-on opening a b Publish what h e = refl
others-go-on opening a b Malformed done.Malformed h e = cc
others-go-on opening a b Malformed (done.Published s) h e = absurd h
others-go-on opening a b Malformed done.Held h e = absurd h
others-go-on opening a b Malformed (done.Refused f) h e = absurd h
others-go-on opening a b Malformed done.NoMemory h e = absurd h
others-go-on opening a b Malformed done.Idle h e = absurd h

or-true : (b : Bool) → (b || true) ≡ true
or-true true = refl
or-true false = refl

module _ {R W : Type 0} (opening : State) (sides : SidesView R W) (start : Attended R W Batches) where
  -- some commands were read and done, and the commands after them go on from there
  pub record HasCome (left : Option (List ℕ)) (now : Batches) (current : W) : Type 0 where
    pub bytes : List ℕ
    pub commands : List Command
    pub well_formed : list_any is_malformed commands ≡ false
    pub lines : List ℕ
    pub came : Consumes (sides.left start.reader) left bytes
    pub sent : IsSent sides.held sides.taken start.writer lines current
    pub follows : (others : List Command) (more later rest : List ℕ) (new : Batches) → AreDone opening others now more later rest new →
        AreDone opening (commands ++ others) start.asked (bytes ++ more) (lines ++ later) rest new

  -- nothing yet
  pub nothing-came : HasCome (sides.left start.reader) start.asked start.writer
  nothing-came = record {
    bytes = [];
    commands = [];
    well_formed = refl;
    lines = [];
    came = Consumes-nil (sides.left start.reader);
    sent = nothing-sent sides.held sides.taken start.writer;
    follows = λ others more later rest new done. done;
  }

  module _ (left : Option (List ℕ)) (now : Batches) (current : W) (come : HasCome left now current) where
    -- one more command
    pub one-more : (after : Option (List ℕ)) (next : Batches) (last : W) (piece : List ℕ) (command : Command) (what : Done) → Consumes left after piece → IsCommandOf piece command →
        HasDone opening now command what next → ends what ≡ false → IsSent sides.held sides.taken current (done_line what) last → HasCome after next last
    one-more after next last piece command what taken_in is has on sent = record {
      bytes = come.bytes ++ piece;
      commands = come.commands ++ command ∷ [];
      well_formed =
          let plain : is_malformed command ≡ false = others-go-on opening now next command what has on in
          rw (list_any-append is_malformed come.commands (command ∷ []), come.well_formed, plain) refl;
      lines = come.lines ++ done_line what;
      came = Consumes-trans (sides.left start.reader) left after come.bytes piece come.came taken_in;
      sent = sent-sent sides.held sides.taken start.writer current last come.lines (done_line what) come.sent sent;
      follows = λ others more later rest new done.
          let plain : is_malformed command ≡ false = others-go-on opening now next command what has on in
          let one : AreDone opening (command ∷ others) now (piece ++ more) (done_line what ++ later) rest new =
          (what, next, later, more, is more, (λ bad. absurd (cc)), has, done, refl) in
          rw (append_assoc come.commands (command ∷ []) others, append_assoc come.bytes piece more, append_assoc come.lines (done_line what) later) (come.follows (command ∷ others) (piece ++ more) (done_line what ++ later) rest new one);
    }

    -- these bytes are no command
    pub all-done : (reader : R) (writer : W) (piece : List ℕ) → Consumes left (sides.left reader) piece
        → HasDoneAll opening sides start (record { reader = reader; writer = writer; asked = now }) (record { commands = come.commands; lines = come.lines; rest = piece })
    all-done reader writer piece taken_in =
        let done : AreDone opening (come.commands ++ []) start.asked (come.bytes ++ piece) (come.lines ++ []) piece now = come.follows [] piece [] piece now (refl, refl, refl) in
        record {
          bytes = come.bytes ++ piece;
          came = Consumes-trans (sides.left start.reader) left (sides.left reader) come.bytes piece come.came taken_in;
          done = rw (append-nil come.commands, append-nil come.lines) at done;
        }

    -- the client ended, or the reader failed
    pub came-to-end : (reader : R) (piece : List ℕ) → HasEnded left (sides.left reader) (sides.failed reader) piece → first_command piece ≡ None
        → HasAdministered opening sides start (record { reader = reader; writer = current; asked = now })
    came-to-end reader piece ended none = record {
      reported = record { commands = come.commands; lines = come.lines; rest = piece };
      done = all-done reader current piece ended.read;
      sent = come.sent;
      ended = inr (none, ended.end);
    }

    -- a command was malformed
    pub came-to-malformed : (reader : R) (next : Batches) (last : W) (piece : List ℕ) (command : Command) (what : Done) → Consumes left (sides.left reader) piece → IsCommandOf piece command →
        HasDone opening now command what next → ends what ≡ true → IsSent sides.held sides.taken current (done_line what) last
        → HasAdministered opening sides start (record { reader = reader; writer = last; asked = next })
    came-to-malformed reader next last piece command what taken_in is has end sent =
        let bad : is_malformed command ≡ true = malformed-ends opening now next command what has end in
        let one : AreDone opening (command ∷ []) now (piece ++ []) (done_line what ++ []) [] next = (what, next, [], [], is [], (λ b. refl), has, (refl, refl, refl), refl) in
        let done : AreDone opening (come.commands ++ command ∷ []) start.asked (come.bytes ++ (piece ++ [])) (come.lines ++ (done_line what ++ [])) [] next = come.follows (command ∷ []) (piece ++ []) (done_line what ++ []) [] next one in
        let any : list_any is_malformed (come.commands ++ command ∷ []) ≡ true = rw (list_any-append is_malformed come.commands (command ∷ []), bad) (or-true (list_any is_malformed come.commands)) in
        record {
          reported = record { commands = come.commands ++ command ∷ []; lines = come.lines ++ done_line what; rest = [] };
          done = record {
            bytes = come.bytes ++ piece;
            came = Consumes-trans (sides.left start.reader) left (sides.left reader) come.bytes piece come.came taken_in;
            done = rw (append-nil piece, append-nil (done_line what)) at done;
          };
          sent = sent-sent sides.held sides.taken start.writer current last come.lines (done_line what) come.sent sent;
          ended = inl any;
        }

    -- the writer failed within a line
    pub came-to-stop : (reader : R) (next : Batches) (last : W) (piece : List ℕ) (command : Command) (what : Done) → Consumes left (sides.left reader) piece → IsCommandOf piece command →
        HasDone opening now command what next → IsCutSomewhere sides.held sides.taken current (done_line what) last
        → IsStopped opening sides start (record { reader = reader; writer = last; asked = next })
    came-to-stop reader next last piece command what taken_in is has cut = record {
      reported = record { commands = come.commands; lines = come.lines; rest = piece };
      between = now;
      middle = current;
      done = all-done reader current piece taken_in;
      well_formed = come.well_formed;
      command = command;
      what = what;
      front = rw (append-nil piece) at (is []);
      then = has;
      sent = come.sent;
      cut = cut;
    }

-- what holds of an error, of a success, and where there is no value
pub known-err : {T E : Type 0} (r : Result T E) (P : Type 0) → is_err r ≡ true → OnErr r P → P
known-err (Ok x) P e p = cc
known-err (Err x) P e p = p

pub known-ok : {T E : Type 0} (r : Result T E) (P : Type 0) → is_err r ≡ false → OnOk r P → P
known-ok (Ok x) P e p = p
known-ok (Err x) P e p = cc

-- the same where no case of an error is left
pub known-good : {T E : Type 0} (r : Result T E) (P : Type 0) → ((e : E) → r ≡ Err e → ⊥) → OnOk r P → P
known-good (Ok x) P none p = p
known-good (Err x) P none p = absurd (none x refl)

pub good-match : {T E : Type 0} (r : Result T E) (P : T → Type 0) (Q : E → Type 0) (S : Type 0) → ((e : E) → r ≡ Err e → ⊥) → ((x : T) → P x → S) → MatchResult r P Q → S
good-match (Ok x) P Q S none f p = f x p
good-match (Err x) P Q S none f p = absurd (none x refl)

pub known-match : {T E : Type 0} (r : Result T E) (P : T → Type 0) (Q : E → Type 0) (S : Type 0) → is_err r ≡ false → ((x : T) → P x → S) → MatchResult r P Q → S
known-match (Ok x) P Q S e f p = f x p
known-match (Err x) P Q S e f p = cc

pub none-so : {X : Type 0} (o : Option X) (P : Type 0) → ((x : X) → o ≡ Some x → ⊥) → IfNone o P → P
none-so None P other p = p
none-so (Some x) P other p = absurd (other x refl)

pub known-none : {X : Type 0} (o : Option X) (P : Type 0) (Q : X → Type 0) → ((x : X) → o ≡ Some x → ⊥) → MatchOption o P Q → P
known-none None P Q other p = p
known-none (Some x) P Q other p = absurd (other x refl)
