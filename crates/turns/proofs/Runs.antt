-- Runs of a table of connections.
use Rattle.std.proofs.Common.{◌≡◌, ◌∙◌, ◌⊎◌, inl, inr, ℕ, List, [], ◌∷◌, ◌++◌, Bool, true, false, ◌==◌, Option, None, Some, option_map, ◌<◌, suc, length, arith, refl, sym, ap, subst, append_assoc, append-nil}
use Rattle.std.proofs.KnownBytes.{Appends-nil, Appends-trans}
use Rattle.std.proofs.lemmas.Bool.{eqb-true, eqb-false, eq-eqb, ltb-true, ne_eqb}
use Rattle.std.specs.Prelude.{◌≤◌, IfNone, IfSome, nat_lt, if◌then◌else◌, unwrap_or}
use Rattle.httpedge.specs.Exchange.{Said}
use Rattle.httpedge.specs.Session.{QueryOutcome, HasAsked, HasRespondedWith, SessionState, new_session}
use Rattle.turns.specs.Advancing.{IsNext, HasServed}
use Rattle.turns.specs.Connection.{ConnectionState, IsTurn, TurnTerms, connection_state, next_by}
use Rattle.turns.specs.Drain.{next_drained, phase_drained}
use Rattle.turns.proofs.Lines.{before-after, before-on, before-passed, goes-line, goes-waiting, has-still, or-right, same-size, still-waits, waits-on}
use Rattle.turns.proofs.Order.{before-joins, both, has-joins}
use Rattle.turns.proofs.Ranks.{neither-pending, yields-without-turn}
use Rattle.turns.specs.Queue.{has, joins, before}
use Rattle.turns.specs.Room.{is_next, is_size, line_after, waits_for}
use Rattle.turns.specs.Runs.{Reason, Overdue, Unanswered, Yields, IsReason, KeepsUntilServed, ends_of, Step, Opens, Wakes, Serves, Leaves, IsNew, SlotTurn, IsTurnOf, Steps, Runs, WorkerState, comes, all_come, AreSaid, IsAnswered, IsQuiet, IsKept, RoomInvites, RoomServes, RunsAnswer, RunsServe, TurnsStay, HasRun, given_of, turns_of}
use Rattle.turns.specs.Slots.{SlotState, at_slot, slot_state, HasTurn}
use Rattle.turns.specs.Table.{Goes, connections, given_at, may_ask_at, ready_slots, size_at, waiting_for, waiting_slots, terms_at}
use Rattle.turns.specs.declared.answer_size.AnswerSize.{AnswerSize}
use Rattle.turns.specs.declared.answer_size.AnswerSize.TheVariants.{Small, Large}
use Rattle.turns.specs.Times.{is_over, is_draining}
use Rattle.turns.specs.declared.open_connection.OpenConnection.{OpenConnection}
use Rattle.turns.specs.declared.outcomes.ReadOutcome.{ReadOutcome}
use Rattle.turns.specs.declared.outcomes.ReadOutcome.TheVariants as read
use Rattle.turns.specs.declared.table.ConnectionTable.{ConnectionTable}
use Rattle.turns.specs.declared.times.Phase.{Phase}
use Rattle.turns.specs.declared.turn.Next.{Next}
use Rattle.turns.specs.declared.open_connection.TurnEnd.{TurnEnd}
use Rattle.turns.specs.declared.turn.Next.TheVariants as next
use Rattle.turns.specs.declared.transport.Transport.{Ghosts as Transport}

-- one that isn't the first is behind it
has-rest : (slot first : ℕ) (rest : List ℕ) → (slot ≡ first → ⊥) → has slot (first ∷ rest) ≡ true → has slot rest ≡ true
has-rest slot first rest other there = rw (ne_eqb first slot (λ same. other (sym same))) at there

module _ {A : Type 0} (answers : A → List ℕ → Said → A → Type 0) where
  said-then : (some others : List QueryOutcome) → AreSaid answers some → AreSaid answers others → AreSaid answers (some ++ others)
  said-then [] others first last = last
  said-then (one ∷ some) others (is, first) last = (is, said-then some others first last)

  said-once : (old new : A) (queries : List QueryOutcome) → HasAsked answers old queries new → AreSaid answers queries
  said-once old new queries (inl (none, same)) = rw none tt
  said-once old new queries (inr (one, is, said)) = rw is ((old, new, said), tt)

-- a connection that is drained is neither over nor drained afterwards: that can't be
drained-goes-on : (result : Next) (phase : Phase) → is_draining phase ≡ true → is_over (phase_drained result phase) ≡ false → is_draining (phase_drained result phase) ≡ false → ⊥
drained-goes-on next.Turn phase drains over draining = cc (drains, draining)
drained-goes-on next.Readable phase drains over draining = cc (drains, draining)
drained-goes-on next.Writable phase drains over draining = cc (drains, draining)
drained-goes-on next.Room phase drains over draining = cc (drains, draining)
drained-goes-on next.Done phase drains over draining = absurd (cc over)
drained-goes-on next.Failed phase drains over draining = absurd (cc over)

module _ {A T : Type 0} (answers : A → List ℕ → Said → A → Type 0) (known : Transport T) where
  -- a new connection is answered
  new-answered : (first : OpenConnection T) → IsNew first → HasRespondedWith [] [] [] new_session → IsAnswered answers known first first
  new-answered first new starts = record {
    read = [];
    written = [];
    queries = [];
    front = [];
    rest = [];
    is = refl;
    came = Appends-nil (known.delivered first.transport);
    went = Appends-nil (known.accepted first.transport);
    said = tt;
    responded = subst (λ (s : SessionState). HasRespondedWith [] [] [] s) (sym new.session) starts;
    left = λ over draining. (sym new.buffer, λ ended. new.buffer);
  }

  -- so it is after a turn
  turn-answered : (terms : TurnTerms) (first : OpenConnection T) (old new : ConnectionState A T) (result : Next) → IsAnswered answers known first old.connection
      → IsTurn answers known terms old new result → IsAnswered answers known first new.connection
  turn-answered terms first old new result was turn = go (is_over old.connection.phase) refl (is_draining old.connection.phase) refl
    where
      go : (over : Bool) → is_over old.connection.phase ≡ over → (draining : Bool) → is_draining old.connection.phase ≡ draining → IsAnswered answers known first new.connection
      go true over draining drains = subst (λ (c : OpenConnection T). IsAnswered answers known first c) (sym (turn.over over).0) was
      go false over true drains =
          let d = (turn.drained drains).0 in
          record {
            read = was.read ++ d.came;
            written = was.written;
            queries = was.queries;
            front = was.front;
            rest = was.rest ++ d.came;
            is = ap (λ l. l ++ d.came) was.is ∙ append_assoc was.front was.rest d.came;
            came = Appends-trans (known.delivered first.transport) (known.delivered old.connection.transport) (known.delivered new.connection.transport) was.read d.came was.came d.gave;
            went = rw (append-nil was.written) at (Appends-trans (known.accepted first.transport) (known.accepted old.connection.transport) (known.accepted new.connection.transport) was.written [] was.went d.writes);
            said = was.said;
            responded = subst (λ (s : SessionState). HasRespondedWith was.front was.queries was.written s) (sym d.session) was.responded;
            left = λ ends drained. absurd (drained-goes-on result old.connection.phase drains (rw d.time at ends) (rw d.time at drained));
          }
      go false over false drains =
          let s = turn.served over drains in
          let (rest, ended) = was.left over drains in
          let holds : HasServed was.read was.queries was.written old.connection.exchange = (was.front, was.is ∙ ap (λ l. was.front ++ l) rest, was.responded, ended) in
          let (front, is, responded, ends) = s.advances.keeps was.read was.written was.queries holds in
          record {
            read = was.read ++ s.advances.came;
            written = was.written ++ s.advances.went;
            queries = was.queries ++ s.advances.queries;
            front = front;
            rest = new.connection.exchange.buffer;
            is = is;
            came = Appends-trans (known.delivered first.transport) (known.delivered old.connection.transport) (known.delivered new.connection.transport) was.read s.advances.came was.came s.advances.reads;
            went = Appends-trans (known.accepted first.transport) (known.accepted old.connection.transport) (known.accepted new.connection.transport) was.written s.advances.went was.went s.advances.writes;
            said = said-then answers was.queries s.advances.queries was.said (said-once answers old.asks new.asks s.advances.queries s.advances.says);
            responded = responded;
            left = λ over drained. (refl, ends);
          }

  over-quiet : (new : OpenConnection T) (phase : Phase) → new.phase ≡ phase → is_over phase ≡ true → IsQuiet known new
  over-quiet new phase is over = inl (ap is_over is ∙ over)

  -- after a turn a connection has a further one, waits for room, or has nothing to do
  turn-held : (terms : TurnTerms) (old new : ConnectionState A T) (result : Next) → IsTurn answers known terms old new result
      → (result ≡ next.Turn) ⊎ ((result ≡ next.Room) ⊎ IsQuiet known new.connection)
  turn-held terms old new result turn = go (is_over old.connection.phase) refl (is_draining old.connection.phase) refl
    where
      drained : (outcome : ReadOutcome) (dropped : ℕ) → result ≡ next_drained outcome dropped → new.connection.phase ≡ phase_drained result old.connection.phase → known.reads old.connection.transport outcome new.connection.transport → (outcome ≡ read.WouldBlock → new.connection.exchange.buffer ≡ [])
          → (result ≡ next.Turn) ⊎ ((result ≡ next.Room) ⊎ IsQuiet known new.connection)
      drained (read.Bytes n) dropped is time one idle = more (nat_lt Rattle.turns.specs.declared.drained.TheConstants.MAX_DRAINED_BYTES dropped) is
        where
          more : (b : Bool) → result ≡ (if b then next.Done else next.Turn) → (result ≡ next.Turn) ⊎ ((result ≡ next.Room) ⊎ IsQuiet known new.connection)
          more true done = inr (inr (over-quiet new.connection Phase.Over (rw done at time) refl))
          more false goes = inl goes
      drained read.WouldBlock dropped is time one idle = inr (inr (inr (inl (old.connection.transport, one, idle refl))))
      drained read.End dropped is time one idle = inr (inr (over-quiet new.connection Phase.Over (rw is at time) refl))
      drained read.Failed dropped is time one idle = inr (inr (over-quiet new.connection Phase.Over (rw is at time) refl))

      served : (turned : Next) (phase : Phase) → result ≡ next_by turned → (turned ≡ next.Failed → new.connection.phase ≡ Phase.Over) → IsNext known terms.may_ask result new.connection.exchange new.connection.transport
          → (result ≡ next.Turn) ⊎ ((result ≡ next.Room) ⊎ IsQuiet known new.connection)
      served next.Turn phase is over waits = inl is
      served next.Readable phase is over waits =
          let (before, read, wants, empty) = subst (λ (r : Next). IsNext known terms.may_ask r new.connection.exchange new.connection.transport) is waits in
          inr (inr (inr (inl (before, read, empty))))
      served next.Writable phase is over waits =
          let (before, written, owes) = subst (λ (r : Next). IsNext known terms.may_ask r new.connection.exchange new.connection.transport) is waits in
          inr (inr (inr (inr (before, written, owes))))
      served next.Room phase is over waits = inr (inl is)
      served next.Done phase is over waits = inl is
      served next.Failed phase is over waits = inr (inr (over-quiet new.connection Phase.Over (over refl) refl))

      go : (over : Bool) → is_over old.connection.phase ≡ over → (draining : Bool) → is_draining old.connection.phase ≡ draining → (result ≡ next.Turn) ⊎ ((result ≡ next.Room) ⊎ IsQuiet known new.connection)
      go true over draining drains = inr (inr (inl (ap (λ (c : OpenConnection T). is_over c.phase) (turn.over over).0 ∙ over)))
      go false over true drains =
          let d = (turn.drained drains).0 in
          drained d.outcome new.connection.dropped d.next d.time d.one_read d.idle
      go false over false drains =
          let s = turn.served over drains in
          served s.turned.next old.connection.phase s.next (λ failed. rw failed at s.time) s.waits

  abbrev Kept : (ℕ → Option (OpenConnection T)) → ConnectionTable T → Type 0
  Kept found table = (slot : ℕ) (now : OpenConnection T) → at_slot (connections table) slot ≡ Some now → IsKept answers known found table slot now

  -- a connection that stays where it is is still held
  still : (found later : ℕ → Option (OpenConnection T)) (old new : ConnectionTable T) (slot : ℕ) (now : OpenConnection T) → later slot ≡ found slot
      → (has slot (ready_slots old) ≡ true → has slot (ready_slots new) ≡ true) → (has slot (waiting_slots old) ≡ true → has slot (waiting_slots new) ≡ true)
      → IsKept answers known found old slot now → IsKept answers known later new slot now
  still found later old new slot now same ready keeps was = record { first = was.first; came = same ∙ was.came; answered = was.answered; held = go was.held }
    where
      go : (has slot (ready_slots old) ≡ true) ⊎ ((has slot (waiting_slots old) ≡ true) ⊎ IsQuiet known now) → (has slot (ready_slots new) ≡ true) ⊎ ((has slot (waiting_slots new) ≡ true) ⊎ IsQuiet known now)
      go (inl there) = inl (ready there)
      go (inr (inl waits)) = inr (inl (keeps waits))
      go (inr (inr quiet)) = inr (inr quiet)

  goes-ready : (old new : ConnectionTable T) → Goes old new → (slot : ℕ) → has slot (ready_slots old) ≡ true → has slot (ready_slots new) ≡ true
  goes-ready old new goes slot there = rw goes.joins.1 (has-joins slot (ready_slots old) goes.joins.0 there)

  -- those that wait for room after a turn
  turn-line : (size : AnswerSize) (old new : WorkerState A T) (turn : SlotTurn) → IsTurnOf answers known old turn new
      → waiting_for size new.table ≡ line_after turn.slot (may_ask_at old.table turn.slot) (is_size size (waits_for turn.next (size_at new.table turn.slot))) (waiting_for size old.table)
  turn-line Small old new turn had = had.small
  turn-line Large old new turn had = had.large

  -- after a turn of another slot a slot waits as before
  turn-waiting : (old new : WorkerState A T) (turn : SlotTurn) → IsTurnOf answers known old turn new → (slot : ℕ) → (slot ≡ turn.slot → ⊥)
      → has slot (waiting_slots old.table) ≡ true → has slot (waiting_slots new.table) ≡ true
  turn-waiting old new turn had slot apart there =
      has-still slot (waiting_for Small old.table) (waiting_for Large old.table) (waiting_for Small new.table) (waiting_for Large new.table)
      (λ h. subst (λ (l : List ℕ). has slot l ≡ true) (sym had.small) (still-waits slot turn.slot _ _ (waiting_for Small old.table) apart h))
      (λ h. subst (λ (l : List ℕ). has slot l ≡ true) (sym had.large) (still-waits slot turn.slot _ _ (waiting_for Large old.table) apart h))
      there

  step-keeps : HasRespondedWith [] [] [] new_session → (found : ℕ → Option (OpenConnection T)) (old new : WorkerState A T) (step : Step T)
      → Steps answers known old step new → Kept found old.table → Kept (comes found step) new.table
  step-keeps starts found old new (Opens slot connection) (same, fresh, free, here, others, ready, goes) kept other now at = go (slot == other) refl
    where
      go : (b : Bool) → (slot == other) ≡ b → IsKept answers known (comes found (Opens slot connection)) new.table other now
      go true e =
          let equal : slot ≡ other = eqb-true slot other e in
          let is : now ≡ connection = cc (at, here, equal) in
          record {
            first = connection;
            came = rw e refl;
            answered = subst (λ (c : OpenConnection T). IsAnswered answers known connection c) (sym is) (new-answered connection fresh starts);
            held = inl (subst (λ (k : ℕ). has k (ready_slots new.table) ≡ true) equal ready);
          }
      go false e =
          let apart : other ≡ slot → ⊥ = λ equal. eqb-false slot other e (sym equal) in
          still found (comes found (Opens slot connection)) old.table new.table other now (rw e refl) (goes-ready old.table new.table goes other) (goes-waiting old.table new.table goes other) (kept other now (sym (others other apart) ∙ at))
  step-keeps starts found old new (Wakes slot) (same, stay, goes) kept other now at =
      still found (comes found (Wakes slot)) old.table new.table other now refl (goes-ready old.table new.table goes other) (goes-waiting old.table new.table goes other) (kept other now (ap (λ l. at_slot l other) (sym stay) ∙ at))
  step-keeps starts found old new (Leaves slot why) (same, reason, gone, others, goes) kept other now at = go (slot == other) refl
    where
      go : (b : Bool) → (slot == other) ≡ b → IsKept answers known (comes found (Leaves slot why)) new.table other now
      go true e = let equal : slot ≡ other = eqb-true slot other e in absurd (let none : ◌≡◌ {A = Option (OpenConnection T)} None (Some now) = sym (ap (at_slot (connections new.table)) (sym equal) ∙ gone) ∙ at in cc none)
      go false e =
          let apart : other ≡ slot → ⊥ = λ equal. eqb-false slot other e (sym equal) in
          still found (comes found (Leaves slot why)) old.table new.table other now refl (goes-ready old.table new.table goes other) (goes-waiting old.table new.table goes other) (kept other now (sym (others other apart) ∙ at))
  step-keeps starts found old new (Serves turn) had kept other now at = go (turn.slot == other) refl
    where
      own : (r : Option Next) → turn.next ≡ r → turn.slot ≡ other → IfSome r (λ next. HasTurn answers known (terms_at old.table turn.slot turn.ended) (slot_state (connections old.table) turn.slot old.asks) (slot_state (connections new.table) turn.slot new.asks) next)
          → IfNone r ((connections new.table ≡ connections old.table) × (new.asks ≡ old.asks)) → IfNone r (at_slot (connections old.table) turn.slot ≡ None)
          → IsKept answers known (comes found (Serves turn)) new.table other now
      own None none equal nothing (stay, still_asks) free = absurd (let clash : ◌≡◌ {A = Option (OpenConnection T)} None (Some now) = sym free ∙ ap (at_slot (connections old.table)) equal ∙ ap (λ l. at_slot l other) (sym stay) ∙ at in cc clash)
      own (Some next) is equal one nobody empty =
          let same : one.after ≡ now = cc (one.is, at, equal) in
          let before = kept turn.slot one.before one.was in
          let held : (has turn.slot (ready_slots new.table) ≡ true) ⊎ ((has turn.slot (waiting_slots new.table) ≡ true) ⊎ IsQuiet known one.after) = elim (turn-held (terms_at old.table turn.slot turn.ended) (connection_state one.before old.asks) (connection_state one.after new.asks) next one.turn) [
            | inl again ↦ inl (had.turns (is ∙ ap Some again))
            | inr (inl room) ↦ inr (inl (had.waits (is ∙ ap Some room)))
            | inr (inr quiet) ↦ inr (inr quiet)
          ] in
          let all : IsKept answers known found new.table turn.slot one.after = record {
            first = before.first;
            came = before.came;
            answered = turn-answered (terms_at old.table turn.slot turn.ended) before.first (connection_state one.before old.asks) (connection_state one.after new.asks) next before.answered one.turn;
            held = held;
          } in
          subst (λ (k : ℕ). IsKept answers known found new.table k now) equal (subst (λ (c : OpenConnection T). IsKept answers known found new.table turn.slot c) same all)

      go : (b : Bool) → (turn.slot == other) ≡ b → IsKept answers known (comes found (Serves turn)) new.table other now
      go true e = own turn.next refl (eqb-true turn.slot other e) had.own had.nobody had.empty
      go false e =
          let apart : other ≡ turn.slot → ⊥ = λ equal. eqb-false turn.slot other e (sym equal) in
          let ready : has other (ready_slots old.table) ≡ true → has other (ready_slots new.table) ≡ true = λ there. rw had.later (has-joins other had.rest had.slots (has-rest other turn.slot had.rest apart (rw had.first at there))) in
          still found (comes found (Serves turn)) old.table new.table other now refl ready (turn-waiting old new turn had other apart) (kept other now (sym (had.others other apart) ∙ at))

  runs-keep : HasRespondedWith [] [] [] new_session → (found : ℕ → Option (OpenConnection T)) (old new : WorkerState A T) (steps : List (Step T))
      → Runs answers known old steps new → Kept found old.table → Kept (all_come found steps) new.table
  runs-keep starts found old new [] (same, still_asks) kept = subst (λ (t : ConnectionTable T). Kept found t) (sym same) kept
  runs-keep starts found old new (step ∷ steps) (between, first, rest) kept =
      runs-keep starts (comes found step) between new steps rest (step-keeps starts found old between step first kept)

  pub runs-answer : HasRespondedWith [] [] [] new_session → RunsAnswer answers known
  runs-answer starts first last steps free runs =
      runs-keep starts (λ _. None) first last steps runs (λ slot now at. absurd (let clash : ◌≡◌ {A = Option (OpenConnection T)} None (Some now) = sym (free slot) ∙ at in cc clash))

  joined-serve : (old new : ConnectionTable T) (slot count : ℕ) (P : Type 0) → Goes old new → has slot (ready_slots old) ≡ true → length (before slot (ready_slots old)) < count
      → (has slot (ready_slots new) ≡ true → length (before slot (ready_slots new)) < count → P) → P
  joined-serve old new slot count P goes there less next =
      next (goes-ready old new goes slot there) (rw (goes.joins.1, before-joins slot (ready_slots old) goes.joins.0 there) less)

  pub runs-serve : RunsServe answers known
  runs-serve first last [] runs slot there less = absurd (omega (arith, less))
  runs-serve first last (Opens at connection ∷ steps) (between, (same, fresh, free, here, others, ready, goes), rest) slot there less =
      joined-serve first.table between.table slot (length (turns_of steps)) _ goes there less (λ h l. runs-serve between last steps rest slot h l)
  runs-serve first last (Wakes at ∷ steps) (between, (same, stay, goes), rest) slot there less =
      joined-serve first.table between.table slot (length (turns_of steps)) _ goes there less (λ h l. runs-serve between last steps rest slot h l)
  runs-serve first last (Leaves at why ∷ steps) (between, (same, reason, gone, others, goes), rest) slot there less =
      joined-serve first.table between.table slot (length (turns_of steps)) _ goes there less (λ h l. runs-serve between last steps rest slot h l)
  runs-serve first last (Serves turn ∷ steps) (between, had, rest) slot there less = go (λ h l. runs-serve between last steps rest slot h l) (turn.slot == slot) refl
    where
      go : (has slot (ready_slots between.table) ≡ true → length (before slot (ready_slots between.table)) < length (turns_of steps) → has slot (turns_of steps) ≡ true) → (b : Bool) → (turn.slot == slot) ≡ b → has slot (turn.slot ∷ turns_of steps) ≡ true
      go further true e = rw e refl
      go further false e =
          let apart : slot ≡ turn.slot → ⊥ = λ equal. eqb-false turn.slot slot e (sym equal) in
          let behind : has slot had.rest ≡ true = has-rest slot turn.slot had.rest apart (rw had.first at there) in
          let one : length (before slot (turn.slot ∷ had.rest)) < suc (length (turns_of steps)) = rw had.first at less in
          let fewer : length (before slot had.rest) < length (turns_of steps) = omega (arith, rw e at one) in
          rw e (further (rw had.later (has-joins slot had.rest had.slots behind)) (rw (had.later, before-joins slot had.rest had.slots behind) fewer))

  -- a slot was given room
  abbrev Given : ℕ → List (Step T) → Type 0
  Given slot steps = (has slot (given_of Small steps) ≡ true) ⊎ (has slot (given_of Large steps) ≡ true)

  given-more : (size : AnswerSize) (turn : SlotTurn) (slot : ℕ) (steps : List (Step T)) → has slot (given_of size steps) ≡ true → has slot (given_of size (Serves turn ∷ steps)) ≡ true
  given-more size turn slot steps given = go (is_size size turn.given) refl
    where
      go : (b : Bool) → is_size size turn.given ≡ b → has slot (given_of size (Serves turn ∷ steps)) ≡ true
      go true e = rw e (or-right (turn.slot == slot) (has slot (given_of size steps)) given)
      go false e = rw e given

  more-given : (turn : SlotTurn) (slot : ℕ) (steps : List (Step T)) → Given slot steps → Given slot (Serves turn ∷ steps)
  more-given turn slot steps (inl given) = inl (given-more Small turn slot steps given)
  more-given turn slot steps (inr given) = inr (given-more Large turn slot steps given)

  own-given : (size : AnswerSize) (turn : SlotTurn) (slot : ℕ) (steps : List (Step T)) → turn.given ≡ Some size → turn.slot ≡ slot → Given slot (Serves turn ∷ steps)
  own-given Small turn slot steps is equal = inl (rw is (rw (eq-eqb turn.slot slot equal) refl))
  own-given Large turn slot steps is equal = inr (rw is (rw (eq-eqb turn.slot slot equal) refl))

  line-stays : (size : AnswerSize) (old new : ConnectionTable T) (slot count : ℕ) (P : Type 0) → Goes old new → has slot (waiting_for size old) ≡ true
      → length (before slot (waiting_for size old)) < count → (has slot (waiting_for size new) ≡ true → length (before slot (waiting_for size new)) < count → P) → P
  line-stays size old new slot count P goes there less next =
      next (subst (λ (l : List ℕ). has slot l ≡ true) (sym (goes-line size old new goes)) there) (subst (λ (l : List ℕ). length (before slot l) < count) (sym (goes-line size old new goes)) less)

  -- who is given room is the next for an answer of its size
  given-next : (size : AnswerSize) (table : ConnectionTable T) (slot : ℕ) → may_ask_at table slot ≡ true → is_size size (given_at table slot) ≡ true → is_next slot (waiting_for size table) ≡ true
  given-next size table slot asks given =
      let is : is_size size (Some (size_at table slot)) ≡ true = rw asks at given in
      let next : is_next slot (waiting_for (size_at table slot) table) ≡ true = (both _ _ asks).1 in
      subst (λ (s : AnswerSize). is_next slot (waiting_for s table) ≡ true) (same-size size (size_at table slot) is) next

  pub room-serves : RoomServes answers known
  room-serves size first last [] runs slot there less = absurd (omega (arith, less))
  room-serves size first last (Opens at connection ∷ steps) (between, (same, fresh, free, here, others, ready, goes), rest) slot there less =
      line-stays size first.table between.table slot (length (given_of size steps)) _ goes there less (λ h l. room-serves size between last steps rest slot h l)
  room-serves size first last (Wakes at ∷ steps) (between, (same, stay, goes), rest) slot there less =
      line-stays size first.table between.table slot (length (given_of size steps)) _ goes there less (λ h l. room-serves size between last steps rest slot h l)
  room-serves size first last (Leaves at why ∷ steps) (between, (same, reason, gone, others, goes), rest) slot there less =
      line-stays size first.table between.table slot (length (given_of size steps)) _ goes there less (λ h l. room-serves size between last steps rest slot h l)
  room-serves size first last (Serves turn ∷ steps) (between, had, rest) slot there less =
      go (λ h l. room-serves size between last steps rest slot h l) (may_ask_at first.table turn.slot) refl (turn.slot == slot) refl
    where
      line : List ℕ
      line = waiting_for size first.table

      waits : Bool
      waits = is_size size (waits_for turn.next (size_at between.table turn.slot))

      later : (asks : Bool) → may_ask_at first.table turn.slot ≡ asks → line_after turn.slot asks waits line ≡ waiting_for size between.table
      later asks e = sym (turn-line size first between turn had ∙ ap (λ b. line_after turn.slot b waits line) e)

      given : (asks : Bool) → may_ask_at first.table turn.slot ≡ asks → turn.given ≡ (if asks then Some (size_at first.table turn.slot) else None)
      given asks e = had.given ∙ ap (λ b. if b then Some (size_at first.table turn.slot) else None) e

      go : (has slot (waiting_for size between.table) ≡ true → length (before slot (waiting_for size between.table)) < length (given_of size steps) → Given slot steps)
          → (asks : Bool) → may_ask_at first.table turn.slot ≡ asks → (b : Bool) → (turn.slot == slot) ≡ b → Given slot (Serves turn ∷ steps)
      go further false a b e =
          let count : length (before slot line) < length (given_of size steps) = rw (given false a) at less in
          more-given turn slot steps (further
          (subst (λ (l : List ℕ). has slot l ≡ true) (later false a) (waits-on slot turn.slot waits line there))
          (subst (λ (l : List ℕ). length (before slot l) < length (given_of size steps)) (later false a) (rw (before-on slot turn.slot waits line there) count)))
      go further true a true e = own-given (size_at first.table turn.slot) turn slot steps (given true a) (eqb-true turn.slot slot e)
      go further true a false e = pick (is_size size turn.given) refl
        where
          apart : slot ≡ turn.slot → ⊥
          apart equal = eqb-false turn.slot slot e (sym equal)

          there_still : has slot (waiting_for size between.table) ≡ true
          there_still = subst (λ (l : List ℕ). has slot l ≡ true) (later true a) (still-waits slot turn.slot true waits line apart there)

          pick : (b : Bool) → is_size size turn.given ≡ b → Given slot (Serves turn ∷ steps)
          pick true g =
              let next : is_next turn.slot line ≡ true = given-next size first.table turn.slot a (subst (λ (o : Option AnswerSize). is_size size o ≡ true) had.given g) in
              let fewer = before-passed slot turn.slot waits line apart there next in
              let count : length (before slot line) < suc (length (given_of size steps)) = rw g at less in
              more-given turn slot steps (further there_still (subst (λ (l : List ℕ). length (before slot l) < length (given_of size steps)) (later true a) (omega (arith, fewer, count))))
          pick false g =
              let fewer = before-after slot turn.slot waits line apart there in
              let count : length (before slot line) < length (given_of size steps) = rw g at less in
              more-given turn slot steps (further there_still (subst (λ (l : List ℕ). length (before slot l) < length (given_of size steps)) (later true a) (omega (arith, fewer, count))))

  pub turns-stay : TurnsStay answers known
  turns-stay first last [] (same, still_asks) slot there = inr (rw same there)
  turns-stay first last (Opens at connection ∷ steps) (between, (same, fresh, free, here, others, ready, goes), rest) slot there =
      turns-stay between last steps rest slot (goes-ready first.table between.table goes slot there)
  turns-stay first last (Wakes at ∷ steps) (between, (same, stay, goes), rest) slot there =
      turns-stay between last steps rest slot (goes-ready first.table between.table goes slot there)
  turns-stay first last (Leaves at why ∷ steps) (between, (same, reason, gone, others, goes), rest) slot there =
      turns-stay between last steps rest slot (goes-ready first.table between.table goes slot there)
  turns-stay first last (Serves turn ∷ steps) (between, had, rest) slot there = go (λ h. turns-stay between last steps rest slot h) (turn.slot == slot) refl
    where
      go : (has slot (ready_slots between.table) ≡ true → (has slot (turns_of steps) ≡ true) ⊎ (has slot (ready_slots last.table) ≡ true)) → (b : Bool) → (turn.slot == slot) ≡ b
          → (has slot (turn.slot ∷ turns_of steps) ≡ true) ⊎ (has slot (ready_slots last.table) ≡ true)
      go further true e = inl (rw e refl)
      go further false e =
          let apart : slot ≡ turn.slot → ⊥ = λ equal. eqb-false turn.slot slot e (sym equal) in
          let behind : has slot had.rest ≡ true = has-rest slot turn.slot had.rest apart (rw had.first at there) in
          rw e (further (rw had.later (has-joins slot had.rest had.slots behind)))

  -- such a connection is served, its worker ends, or it is still at its slot
  abbrev Served : ℕ → OpenConnection T → List (Step T) → WorkerState A T → Type 0
  Served slot connection steps last = (has slot (turns_of steps) ≡ true) ⊎ ((has slot (ends_of steps) ≡ true) ⊎ (at_slot (connections last.table) slot ≡ Some connection))

  -- a connection that has a turn doesn't leave, unless its worker ends
  leaves-ended : (table : ConnectionTable T) (at slot : ℕ) (why : Reason) (connection : OpenConnection T) (steps : List (Step T)) (last : WorkerState A T) → IsReason why table at → at ≡ slot
      → has slot (ready_slots table) ≡ true → Served slot connection (Leaves at why ∷ steps) last
  leaves-ended table at slot (Overdue now) connection steps last is equal there =
      absurd (let clash : false ≡ true = sym (neither-pending table at is.0).0 ∙ (ap (λ k. has k (ready_slots table)) equal ∙ there) in cc clash)
  leaves-ended table at slot Unanswered connection steps last is equal there = inr (inl (rw (eq-eqb at slot equal) refl))
  leaves-ended table at slot (Yields pressure) connection steps last is equal there =
      absurd (let clash : false ≡ true = sym (yields-without-turn pressure table at is.0).0 ∙ (ap (λ k. has k (ready_slots table)) equal ∙ there) in cc clash)

  leaves-other : (at slot : ℕ) (why : Reason) (connection : OpenConnection T) (steps : List (Step T)) (last : WorkerState A T) → (at == slot) ≡ false → Served slot connection steps last
      → Served slot connection (Leaves at why ∷ steps) last
  leaves-other at slot (Overdue now) connection steps last e was = was
  leaves-other at slot Unanswered connection steps last e was = rw e was
  leaves-other at slot (Yields pressure) connection steps last e was = was

  pub keeps-until-served : KeepsUntilServed answers known
  keeps-until-served first last [] (same, still_asks) slot connection here there = inr (inr (ap (λ (t : ConnectionTable T). at_slot (connections t) slot) same ∙ here))
  keeps-until-served first last (Opens at opened ∷ steps) (between, (same, fresh, free, comes, others, ready, goes), rest) slot connection here there =
      go (λ h o. keeps-until-served between last steps rest slot connection h o) (at == slot) refl
    where
      go : (at_slot (connections between.table) slot ≡ Some connection → has slot (ready_slots between.table) ≡ true → Served slot connection steps last) → (b : Bool) → (at == slot) ≡ b
          → Served slot connection (Opens at opened ∷ steps) last
      go further true e =
          let equal : at ≡ slot = eqb-true at slot e in
          absurd (let clash : ◌≡◌ {A = Option (OpenConnection T)} None (Some connection) = sym free ∙ (ap (at_slot (connections first.table)) equal ∙ here) in cc clash)
      go further false e =
          let apart : slot ≡ at → ⊥ = λ equal. eqb-false at slot e (sym equal) in
          further (others slot apart ∙ here) (goes-ready first.table between.table goes slot there)
  keeps-until-served first last (Wakes at ∷ steps) (between, (same, stay, goes), rest) slot connection here there =
      keeps-until-served between last steps rest slot connection (ap (λ l. at_slot l slot) stay ∙ here) (goes-ready first.table between.table goes slot there)
  keeps-until-served first last (Leaves at why ∷ steps) (between, (same, reason, gone, others, goes), rest) slot connection here there =
      go (λ h o. keeps-until-served between last steps rest slot connection h o) (at == slot) refl
    where
      go : (at_slot (connections between.table) slot ≡ Some connection → has slot (ready_slots between.table) ≡ true → Served slot connection steps last) → (b : Bool) → (at == slot) ≡ b
          → Served slot connection (Leaves at why ∷ steps) last
      go further true e = leaves-ended first.table at slot why connection steps last reason (eqb-true at slot e) there
      go further false e =
          let apart : slot ≡ at → ⊥ = λ equal. eqb-false at slot e (sym equal) in
          leaves-other at slot why connection steps last e (further (others slot apart ∙ here) (goes-ready first.table between.table goes slot there))
  keeps-until-served first last (Serves turn ∷ steps) (between, had, rest) slot connection here there =
      go (λ h o. keeps-until-served between last steps rest slot connection h o) (turn.slot == slot) refl
    where
      go : (at_slot (connections between.table) slot ≡ Some connection → has slot (ready_slots between.table) ≡ true → Served slot connection steps last) → (b : Bool) → (turn.slot == slot) ≡ b
          → Served slot connection (Serves turn ∷ steps) last
      go further true e = inl (rw e refl)
      go further false e =
          let apart : slot ≡ turn.slot → ⊥ = λ equal. eqb-false turn.slot slot e (sym equal) in
          let behind : has slot had.rest ≡ true = has-rest slot turn.slot had.rest apart (rw had.first at there) in
          rw e (further (had.others slot apart ∙ here) (rw had.later (has-joins slot had.rest had.slots behind)))

  -- in a turn at most one query was asked
  turn-asks : (terms : TurnTerms) (old new : ConnectionState A T) (result : Next) → IsTurn answers known terms old new result
      → (queries : List QueryOutcome) × HasAsked answers old.asks queries new.asks
  turn-asks terms old new result turn = go (is_over old.connection.phase) refl (is_draining old.connection.phase) refl
    where
      go : (over : Bool) → is_over old.connection.phase ≡ over → (draining : Bool) → is_draining old.connection.phase ≡ draining → (queries : List QueryOutcome) × HasAsked answers old.asks queries new.asks
      go true over draining drains = let (same, still, failed) = turn.over over in ([], inl (refl, still))
      go false over true drains = ([], inl (refl, (turn.drained drains).1))
      go false over false drains = let s = turn.served over drains in (s.advances.queries, s.advances.says)

  pub turned-asks : (old new : WorkerState A T) (turn : SlotTurn) → IsTurnOf answers known old turn new → (queries : List QueryOutcome) × HasAsked answers old.asks queries new.asks
  turned-asks old new turn had = go turn.next had.own had.nobody
    where
      go : (r : Option Next) → IfSome r (λ next. HasTurn answers known (terms_at old.table turn.slot turn.ended) (slot_state (connections old.table) turn.slot old.asks) (slot_state (connections new.table) turn.slot new.asks) next)
          → IfNone r ((connections new.table ≡ connections old.table) × (new.asks ≡ old.asks)) → (queries : List QueryOutcome) × HasAsked answers old.asks queries new.asks
      go None own (same, still) = ([], inl (refl, still))
      go (Some next) own nobody = turn-asks (terms_at old.table turn.slot turn.ended) (connection_state own.before old.asks) (connection_state own.after new.asks) next own.turn

  -- nothing was done
  pub run-none : (state : WorkerState A T) → HasRun answers known state state
  run-none state = ([], (refl, refl))

  pub runs-then : (steps more : List (Step T)) (old between new : WorkerState A T) → Runs answers known old steps between → Runs answers known between more new
      → Runs answers known old (steps ++ more) new
  runs-then [] more old between new (same, still_asks) last =
      subst (λ (t : ConnectionTable T). Runs answers known (record { table = t; asks = old.asks }) more new) same
      (subst (λ (k : A). Runs answers known (record { table = between.table; asks = k }) more new) still_asks last)
  runs-then (step ∷ steps) more old between new (next, first, rest) last = (next, first, runs-then steps more next between new rest last)

  -- some steps, and then others
  pub run-then : (old between new : WorkerState A T) → HasRun answers known old between → HasRun answers known between new → HasRun answers known old new
  run-then old between new (steps, first) (more, last) = (steps ++ more, runs-then steps more old between new first last)

  pub run-step : (step : Step T) (old new : WorkerState A T) → Steps answers known old step new → HasRun answers known old new
  run-step step old new is = (step ∷ [], (new, is, (refl, refl)))

  -- some steps led to the same table and answerer
  pub run-same : (old between new : WorkerState A T) → HasRun answers known old between → new.table ≡ between.table → new.asks ≡ between.asks → HasRun answers known old new
  run-same old between new (steps, runs) table asks = (steps ++ [], runs-then steps [] old between new runs (table, asks))

  -- what the end of a turn of the slots says of its own connection
  pub own-by : (terms : ℕ → TurnTerms) (began : ℕ) (old new : SlotState A T) (turned : Option TurnEnd)
      → IfSome turned (λ t. HasTurn answers known (terms t.ended) old new t.next)
      → IfSome (option_map (λ t. t.next) turned) (λ next. HasTurn answers known (terms (unwrap_or (option_map (λ t. t.ended) turned) began)) old new next)
  own-by terms began old new None own = tt
  own-by terms began old new (Some turned) own = own

-- the terms of a turn say whether a query might be answered in it
pub own-terms : {A T : Type 0} (answers : A → List ℕ → Said → A → Type 0) (known : Transport T) (asks : Bool) (table : ConnectionTable T) (slot : ℕ) (old new : SlotState A T) (turned : Option TurnEnd) → asks ≡ may_ask_at table slot
    → IfSome turned (λ t. HasTurn answers known (record { may_ask = asks; ended = t.ended }) old new t.next) → IfSome turned (λ t. HasTurn answers known (terms_at table slot t.ended) old new t.next)
own-terms answers known asks table slot old new turned is own =
    subst (λ (b : Bool). IfSome turned (λ t. HasTurn answers known (record { may_ask = b; ended = t.ended }) old new t.next)) is own

-- the slot that has waited longest has a turn while there is room
pub room-invites : {T : Type 0} → RoomInvites T
room-invites Small table room slot rest is = table.small_invited (ltb-true table.slots.owed _ room) slot rest is
room-invites Large table room slot rest is = table.large_invited (ltb-true table.slots.owed _ room) slot rest is

-- and of a slot with no connection
pub none-by : (P : Type 0) (turned : Option TurnEnd) → IfNone turned P → IfNone (option_map (λ t. t.next) turned) P
none-by P None is = is
none-by P (Some turned) is = tt

-- a turn ended no sooner than it began
pub ends-later : (began : ℕ) (turned : Option TurnEnd) → IfSome turned (λ t. began ≤ t.ended) → began ≤ unwrap_or (option_map (λ t. t.ended) turned) began
ends-later began None later = omega arith
ends-later began (Some turned) later = later

-- and at that moment where no query was asked
pub unasked-by : (began : ℕ) (P : Type 0) (turned : Option TurnEnd) → IfSome turned (λ t. t.asked ≡ false → (t.ended ≡ began) × P) → IfNone turned P
    → unwrap_or (option_map (λ t. t.asked) turned) false ≡ false → (unwrap_or (option_map (λ t. t.ended) turned) began ≡ began) × P
unasked-by began P None unasked same is = (refl, same)
unasked-by began P (Some turned) unasked nothing is = unasked is
