-- Steps of a worker's table, by what its calls ensure.
use Rattle.std.proofs.Common.{◌≡◌, ◌∙◌, ◌⊎◌, inl, inr, ℕ, List, [], ◌∷◌, ◌++◌, Bool, true, false, ◌==◌, ◌≤◌, ◌<◌, ◌+◌, length, get_or, Option, None, Some, refl, sym, ap, subst, arith}
use Rattle.std.proofs.lemmas.Bool.{eqb-true, eqb-false}
use Rattle.std.specs.Prelude.{IfNone, IfSome, MatchBool}
use Rattle.eventloop.specs.Working.{AreAt, HasGivenWay, HasMadeRoom, HasRunAt, HasTurned, InTime, IsAt}
use Rattle.turns.proofs.Order.{has-joins, joins-then}
use Rattle.turns.proofs.Ranks.{neither-pending}
use Rattle.turns.specs.Pressure.{IsFirst, IsWanted, NoneMay, for_room}
use Rattle.turns.specs.Times.{deadline, is_unanswered}
use Rattle.turns.specs.declared.pressure.Pressure.{Pressure}
use Rattle.turns.specs.declared.times.Timeouts.{Timeouts}
use Rattle.httpedge.specs.Exchange.{Said}
use Rattle.turns.proofs.Lines.{goes-waiting}
use Rattle.turns.proofs.Runs.{run-none, run-step, runs-then}
use Rattle.turns.specs.Queue.{has}
use Rattle.turns.specs.Runs.{Reason, Overdue, Unanswered, Yields, IsReason, Step, Opens, Wakes, Serves, Leaves, IsNew, IsTurnOf, SlotTurn, Steps, Runs, HasRun, WorkerState, turns_of}
use Rattle.turns.specs.Slots.{at_slot, OthersStay}
use Rattle.turns.specs.Table.{Goes, connections, ready_slots, waiting_slots, is_pending, lacks_room, timeouts_of, ClosedOrStayed, LeftOrStayed}
use Rattle.turns.specs.declared.open_connection.OpenConnection.{OpenConnection}
use Rattle.turns.specs.declared.served.Closed.{Closed}
use Rattle.turns.specs.declared.table.ConnectionTable.{ConnectionTable}
use Rattle.turns.specs.declared.transport.Transport.{Ghosts as Transport}

turns-append : {T : Type 0} (some more : List (Step T)) → length (turns_of (some ++ more)) ≡ length (turns_of some) + length (turns_of more)
turns-append [] more = omega arith
turns-append (Opens slot connection ∷ some) more = turns-append some more
turns-append (Wakes slot ∷ some) more = turns-append some more
turns-append (Serves turn ∷ some) more = let e = turns-append some more in omega (arith, e)
turns-append (Leaves slot why ∷ some) more = turns-append some more

at-then : {T : Type 0} (now : ℕ) (some more : List (Step T)) → AreAt now some → AreAt now more → AreAt now (some ++ more)
at-then now [] more first last = last
at-then now (Opens slot connection ∷ some) more first last = at-then now some more first last
at-then now (Wakes slot ∷ some) more first last = at-then now some more first last
at-then now (Serves turn ∷ some) more (is, first) last = (is, at-then now some more first last)
at-then now (Leaves slot why ∷ some) more (is, first) last = (is, at-then now some more first last)

-- one more slot was woken
pub woken-next : {T : Type 0} (slots : List ℕ) (index : ℕ) (old between new : ConnectionTable T) → ((k : ℕ) → k < index → get_or slots k 0 < length (connections old) → has (get_or slots k 0) (ready_slots between) ≡ true)
    → connections between ≡ connections old → Goes between new → (get_or slots index 0 < length (connections between) → has (get_or slots index 0) (ready_slots new) ≡ true)
    → (k : ℕ) → k < index + 1 → get_or slots k 0 < length (connections old) → has (get_or slots k 0) (ready_slots new) ≡ true
woken-next {T} slots index old between new was same goes here k less known = go (k == index) refl
  where
    go : (b : Bool) → (k == index) ≡ b → has (get_or slots k 0) (ready_slots new) ≡ true
    go true e =
        let is : k ≡ index = eqb-true k index e in
        subst (λ (j : ℕ). has (get_or slots j 0) (ready_slots new) ≡ true) (sym is) (here (subst (λ (l : List (Option (OpenConnection T))). get_or slots index 0 < length l) (sym same) (subst (λ (j : ℕ). get_or slots j 0 < length (connections old)) is known)))
    go false e =
        let apart : k ≡ index → ⊥ = eqb-false k index e in
        rw goes.joins.1 (has-joins (get_or slots k 0) (ready_slots between) goes.joins.0 (was k (omega (arith, less, apart)) known))

pub goes-none : {T : Type 0} (table : ConnectionTable T) → Goes table table
goes-none table = record { keeps = record { timeouts = refl; room = refl }; small = refl; large = refl; joins = ([], refl) }

pub goes-then : {T : Type 0} (old between new : ConnectionTable T) → Goes old between → Goes between new → Goes old new
goes-then old between new first last = record {
  keeps = record {
    timeouts = last.keeps.timeouts ∙ first.keeps.timeouts;
    room = last.keeps.room ∙ first.keeps.room;
  };
  small = last.small ∙ first.small;
  large = last.large ∙ first.large;
  joins = joins-then (ready_slots old) (ready_slots between) (ready_slots new) first.joins last.joins;
}

-- a slot that has nothing to do had nothing to do before some slots came to the queue
not-pending : {T : Type 0} (old new : ConnectionTable T) → Goes old new → (slot : ℕ) → is_pending new slot ≡ false → is_pending old slot ≡ false
not-pending old new goes slot none = go (has slot (ready_slots old)) refl (has slot (waiting_slots old)) refl
  where
    no_turn : has slot (ready_slots new) ≡ false
    no_turn = (neither-pending new slot none).0

    go : (ready : Bool) → has slot (ready_slots old) ≡ ready → (waits : Bool) → has slot (waiting_slots old) ≡ waits → is_pending old slot ≡ false
    go true r waits w =
        let there : has slot (ready_slots new) ≡ true = rw goes.joins.1 (has-joins slot (ready_slots old) goes.joins.0 r) in
        absurd (let clash : false ≡ true = sym no_turn ∙ there in cc clash)
    go false r true w =
        let there : has slot (waiting_slots new) ≡ true = goes-waiting old new goes slot w in
        absurd (let clash : false ≡ true = sym (neither-pending new slot none).1 ∙ there in cc clash)
    go false r false w = rw (r, w) refl

-- one more slot was looked at
pub in-time-next : {T : Type 0} (now moment slot : ℕ) (old new : ConnectionTable T) → InTime now slot old → OthersStay slot (connections old) (connections new) → Goes old new
    → moment ≡ now → (is_pending old slot ≡ false → IfSome (at_slot (connections new) slot) (λ connection. moment < deadline (timeouts_of old) connection.phase)) → InTime now (slot + 1) new
in-time-next {T} now moment slot old new was others goes same here one less idle = go (one == slot) refl
  where
    timeouts : timeouts_of new ≡ timeouts_of old
    timeouts = goes.keeps.timeouts

    before : is_pending old one ≡ false
    before = not-pending old new goes one idle

    go : (b : Bool) → (one == slot) ≡ b → IfSome (at_slot (connections new) one) (λ connection. now < deadline (timeouts_of new) connection.phase)
    go true e =
        let equal : one ≡ slot = eqb-true one slot e in
        subst (λ (k : ℕ). IfSome (at_slot (connections new) k) (λ connection. now < deadline (timeouts_of new) connection.phase)) (sym equal)
        (subst (λ (t : Timeouts). IfSome (at_slot (connections new) slot) (λ connection. now < deadline t connection.phase)) (sym timeouts)
        (subst (λ (n : ℕ). IfSome (at_slot (connections new) slot) (λ connection. n < deadline (timeouts_of old) connection.phase)) same
        (here (subst (λ (k : ℕ). is_pending old k ≡ false) equal before))))
    go false e =
        let apart : one ≡ slot → ⊥ = eqb-false one slot e in
        subst (λ (o : Option (OpenConnection T)). IfSome o (λ connection. now < deadline (timeouts_of new) connection.phase)) (sym (others one apart))
        (subst (λ (t : Timeouts). IfSome (at_slot (connections old) one) (λ connection. now < deadline t connection.phase)) (sym timeouts) (was one (omega (arith, less, apart)) before))

-- nothing is needed of a value that is there
pub unneeded : {X : Type 0} (result : Option X) → IfSome result (λ _. Unit {0})
unneeded None = tt
unneeded (Some x) = tt

-- whether the connection at a slot left it or stayed, all others stay
pub left-others : {T : Type 0} (slot : ℕ) (result : Option (OpenConnection T)) (old new : ConnectionTable T) → LeftOrStayed slot result old new → OthersStay slot (connections old) (connections new)
left-others slot None old new same = rw same (λ other apart. refl)
left-others slot (Some connection) old new left = left.others

-- the slowest reader left, where one may
pub made-room : {T : Type 0} (now : ℕ) (old new : ConnectionTable T) (result : Option (Closed T)) → Goes old new
    → IfNone result ((lacks_room old ≡ false) ⊎ NoneMay (for_room now old) old) → IfSome result (λ closed. IsFirst (for_room now old) old closed.slot)
    → IfSome result (λ _. IsWanted (for_room now old) old)
    → ClosedOrStayed result old new → HasMadeRoom now old new
made-room now old new None goes none first wanted stays = elim none [
  | inl nobody ↦ inl nobody
  | inr ranks ↦ inr (goes, inl (stays, ranks))
]
made-room now old new (Some one) goes none first wanted left = inr (goes, inr (one.slot, first, wanted, left.gone, left.others))

-- a table, and an answerer
abbrev with-table : {A T : Type 0} → A → ConnectionTable T → WorkerState A T
with-table asks table = record { table = table; asks = asks }

module _ {A T : Type 0} (answers : A → List ℕ → Said → A → Type 0) (known : Transport T) where
  -- no step changes the times
  step-times : (step : Step T) (old new : WorkerState A T) → Steps answers known old step new → timeouts_of new.table ≡ timeouts_of old.table
  step-times (Opens slot connection) old new (same, fresh, free, there, others, ready, goes) = goes.keeps.timeouts
  step-times (Wakes slot) old new (same, stay, goes) = goes.keeps.timeouts
  step-times (Serves turn) old new is = is.keeps.timeouts
  step-times (Leaves slot why) old new (same, reason, gone, others, goes) = goes.keeps.timeouts

  runs-times : (steps : List (Step T)) (old new : WorkerState A T) → Runs answers known old steps new → timeouts_of new.table ≡ timeouts_of old.table
  runs-times [] old new (same, still_asks) = ap timeouts_of same
  runs-times (step ∷ steps) old new (between, first, rest) = runs-times steps between new rest ∙ step-times step old between first

  pub run-times : (old new : WorkerState A T) → HasRun answers known old new → timeouts_of new.table ≡ timeouts_of old.table
  run-times old new (steps, runs) = runs-times steps old new runs

  -- an answerer stayed, and the table went by some steps
  abbrev pub TableRan : A → ConnectionTable T → ConnectionTable T → Type 0
  TableRan asks old new = HasRun answers known (with-table asks old) (with-table asks new)

  pub wakes-run : (slot : ℕ) (old new : ConnectionTable T) (asks : A) → connections new ≡ connections old → Goes old new → TableRan asks old new
  wakes-run slot old new asks same goes = run-step answers known (Wakes slot) (with-table asks old) (with-table asks new) (refl, same, goes)

  pub leaves-run : (slot : ℕ) (why : Reason) (old new : ConnectionTable T) (asks : A) → IsReason why old slot → at_slot (connections new) slot ≡ None → OthersStay slot (connections old) (connections new)
      → Goes old new → TableRan asks old new
  leaves-run slot why old new asks reason gone others goes = run-step answers known (Leaves slot why) (with-table asks old) (with-table asks new) (refl, reason, gone, others, goes)

  -- the same at a moment
  abbrev pub TableRanAt : ℕ → A → ConnectionTable T → ConnectionTable T → Type 0
  TableRanAt now asks old new = HasRunAt answers known now (with-table asks old) (with-table asks new)

  wakes-at : (now slot : ℕ) (old new : ConnectionTable T) (asks : A) → connections new ≡ connections old → Goes old new → TableRanAt now asks old new
  wakes-at now slot old new asks same goes = (Wakes slot ∷ [], (with-table asks new, (refl, same, goes), (refl, refl)), tt)

  leaves-at : (now slot : ℕ) (why : Reason) (old new : ConnectionTable T) (asks : A) → IsAt now why → IsReason why old slot → at_slot (connections new) slot ≡ None
      → OthersStay slot (connections old) (connections new) → Goes old new → TableRanAt now asks old new
  leaves-at now slot why old new asks at reason gone others goes =
      (Leaves slot why ∷ [], (with-table asks new, (refl, reason, gone, others, goes), (refl, refl)), (at, tt))

  -- a connection whose time is over is taken from its slot, or none
  pub overdue-run : (slot now : ℕ) (old new : ConnectionTable T) (asks : A) (result : Option (OpenConnection T)) → IfSome result (λ connection. deadline (timeouts_of old) connection.phase ≤ now)
      → IfSome result (λ _. is_pending old slot ≡ false) → LeftOrStayed slot result old new → Goes old new → TableRanAt now asks old new
  overdue-run slot now old new asks None overdue due stays goes = wakes-at now slot old new asks stays goes
  overdue-run slot now old new asks (Some connection) overdue due left goes =
      leaves-at now slot (Overdue now) old new asks refl (due, subst (λ (o : Option (OpenConnection T)). IfSome o (λ found. deadline (timeouts_of old) found.phase ≤ now)) (sym left.was) overdue) left.gone left.others goes

  -- a connection that isn't being answered is taken from its slot, or none
  pub unanswered-run : (slot : ℕ) (old new : ConnectionTable T) (asks : A) (result : Option (OpenConnection T)) → IfSome result (λ connection. is_unanswered connection.phase ≡ true)
      → LeftOrStayed slot result old new → Goes old new → TableRan asks old new
  unanswered-run slot old new asks None unanswered stays goes = wakes-run slot old new asks stays goes
  unanswered-run slot old new asks (Some connection) unanswered left goes =
      leaves-run slot Unanswered old new asks (subst (λ (o : Option (OpenConnection T)). IfSome o (λ found. is_unanswered found.phase ≡ true)) (sym left.was) unanswered) left.gone left.others goes

  -- a connection that gave way at a moment, or none
  pub gave-way-run : (now : ℕ) (why : Pressure) (old new : ConnectionTable T) (asks : A) (result : Option (Closed T)) → IsAt now (Yields why) → IfSome result (λ closed. IsFirst why old closed.slot)
      → IfSome result (λ _. IsWanted why old) → ClosedOrStayed result old new → Goes old new → TableRanAt now asks old new
  gave-way-run now why old new asks None at first wanted stays goes = wakes-at now 0 old new asks stays goes
  gave-way-run now why old new asks (Some one) at first wanted left goes = leaves-at now one.slot (Yields why) old new asks at (first, wanted) left.gone left.others goes

  pub opens-run : (now slot : ℕ) (connection : OpenConnection T) (old new : ConnectionTable T) (asks : A) → IsNew connection → at_slot (connections old) slot ≡ None
      → at_slot (connections new) slot ≡ Some connection → OthersStay slot (connections old) (connections new) → has slot (ready_slots new) ≡ true → Goes old new → TableRanAt now asks old new
  opens-run now slot connection old new asks fresh free here others ready goes =
      (Opens slot connection ∷ [], (with-table asks new, (refl, fresh, free, here, others, ready, goes), (refl, refl)), tt)

  pub given-way-run : (why : Pressure) (old new : ConnectionTable T) (asks : A) → HasGivenWay why old new → TableRan asks old new
  given-way-run why old new asks (goes, inl (same, none)) = wakes-run 0 old new asks same goes
  given-way-run why old new asks (goes, inr (slot, first, wanted, gone, others)) = leaves-run slot (Yields why) old new asks (first, wanted) gone others goes

  pub obeyed-run : (why : Pressure) (old new : ConnectionTable T) (asks : A) (is_pressed : Bool) → MatchBool is_pressed (HasGivenWay why old new) (new ≡ old) → TableRan asks old new
  obeyed-run why old new asks true left = given-way-run why old new asks left
  obeyed-run why old new asks false same = subst (λ (t : ConnectionTable T). TableRan asks old t) (sym same) (run-none answers known (with-table asks old))

  -- steps at a moment are steps
  pub ran : (now : ℕ) (old new : WorkerState A T) → HasRunAt answers known now old new → HasRun answers known old new
  ran now old new (steps, runs, at) = (steps, runs)

  -- some steps at a moment, and then others, at the same
  pub ran-then : (now then : ℕ) (old between new : WorkerState A T) → HasRunAt answers known now old between → HasRunAt answers known then between new → then ≡ now
      → HasRunAt answers known now old new
  ran-then now then old between new (steps, first, at) (more, last, at_last) same =
      (steps ++ more, runs-then answers known steps more old between new first last, at-then now steps more at (subst (λ (n : ℕ). AreAt n more) same at_last))

  pub turned-none : (now : ℕ) (state : WorkerState A T) → HasTurned answers known (record { least = 0; now = now }) state state
  turned-none now state = ([], (refl, refl), tt, omega arith)

  -- so many turns, and then so many, at the same moment
  pub turned-then : (m n now then : ℕ) (old between new : WorkerState A T) → HasTurned answers known (record { least = m; now = now }) old between
      → HasTurned answers known (record { least = n; now = then }) between new → then ≡ now → HasTurned answers known (record { least = m + n; now = now }) old new
  turned-then m n now then old between new (steps, first, at, enough) (more, last, at_last, further) same = (
    steps ++ more,
    runs-then answers known steps more old between new first last,
    at-then now steps more at (subst (λ (n : ℕ). AreAt n more) same at_last),
    let e = turns-append steps more in omega (arith, e, enough, further),
  )

  -- a turn, and what followed
  pub turn-turned : (turn : SlotTurn) (old between new : WorkerState A T) → IsTurnOf answers known old turn between → HasRunAt answers known turn.now between new
      → HasTurned answers known (record { least = 1; now = turn.now }) old new
  turn-turned turn old between new had (more, last, at) = (Serves turn ∷ more, (between, had, last), (refl, at), omega arith)

  -- of so many turns there are fewer
  pub turned-fewer : (m n now : ℕ) (old new : WorkerState A T) → n ≤ m → HasTurned answers known (record { least = m; now = now }) old new
      → HasTurned answers known (record { least = n; now = now }) old new
  turned-fewer m n now old new less (steps, runs, at, enough) = (steps, runs, at, omega (arith, less, enough))

  pub turned-ran : (count now : ℕ) (old new : WorkerState A T) → HasTurned answers known (record { least = count; now = now }) old new → HasRunAt answers known now old new
  turned-ran count now old new (steps, runs, at, enough) = (steps, runs, at)

  pub turned-run : (count now : ℕ) (old new : WorkerState A T) → HasTurned answers known (record { least = count; now = now }) old new → HasRun answers known old new
  turned-run count now old new (steps, runs, at, enough) = (steps, runs)
