-- Rounds of a worker's loop, by what its calls ensure.
use Rattle.std.proofs.Common.{◌≡◌, ◌∙◌, ◌<◌, ◌+◌, ℕ, List, [], ◌∷◌, ◌++◌, Bool, true, false, ◌==◌, nat_lt, get_or, length, Option, None, Some, refl, sym, subst, arith, zero, suc}
use Rattle.std.proofs.lemmas.Bool.{eqb-true, eqb-false}
use Rattle.std.proofs.lemmas.Bool.Decides.{nat_tests}
use Rattle.std.specs.Option.{is_none}
use Rattle.std.specs.List.{list_all}
use Rattle.std.specs.Prelude.{IfNone, IfSome, MatchBool, if◌then◌else◌}
use Rattle.eventloop.proofs.Working.{left-others}
use Rattle.eventloop.specs.Rounds.{AllFree, AreRounds, HasEndedBy, HasObeyed, HasWaited, HasWorked, IsRound, KeepsMoments, is_due}
use Rattle.eventloop.specs.Working.{HasLooked, HasMadeRoom, HasRunAt, HasServedSome, HasTurned, state}
use Rattle.eventloop.specs.declared.orders.Orders.{Orders}
use Rattle.eventloop.specs.declared.worker.Worker.{Worker}
use Rattle.httpedge.specs.Exchange.{Said}
use Rattle.httpedge.specs.Session.{HasAsked, QueryOutcome}
use Rattle.turns.specs.Slots.{at_slot}
use Rattle.turns.specs.Table.{connections, LeftOrStayed}
use Rattle.turns.specs.Times.{is_unanswered}
use Rattle.turns.specs.declared.open_connection.OpenConnection.{OpenConnection}
use Rattle.turns.specs.declared.table.ConnectionTable.{ConnectionTable}
use Rattle.turns.specs.declared.transport.Transport.{Ghosts as Transport}

pub moments-then : {A T P : Type 0} (old between new : Worker A T P) → KeepsMoments old between → KeepsMoments between new → KeepsMoments old new
moments-then old between new first last = (last.0 ∙ first.0, last.1 ∙ first.1)

-- where all elements of a list are none, each is
all-none : {X : Type 0} (l : List (Option X)) (index : ℕ) → list_all is_none l ≡ true → get_or l index None ≡ None
all-none [] index all = refl
all-none (None ∷ l) zero all = refl
all-none (None ∷ l) (suc index) all = all-none l index all
all-none (Some x ∷ l) index all = let clash : false ≡ true = all in absurd (cc clash)

pub all-free : {T : Type 0} (table : ConnectionTable T) → list_all is_none (connections table) ≡ true → AllFree table
all-free table all slot = all-none (connections table) slot all

-- a connection that there may be is being answered
abbrev pub IsAnswering : {T : Type 0} → Option (OpenConnection T) → Type 0
IsAnswering found = IfSome found (λ connection. is_unanswered connection.phase ≡ false)

-- the connections at the first slots are being answered
abbrev pub AnsweredUpTo : {T : Type 0} → ℕ → ConnectionTable T → Type 0
AnsweredUpTo count table = (slot : ℕ) → slot < count → IsAnswering (at_slot (connections table) slot)

-- there is no connection from a slot on
abbrev pub FreeFrom : {T : Type 0} → ℕ → ConnectionTable T → Type 0
FreeFrom count table = (slot : ℕ) → (slot < count → ⊥) → at_slot (connections table) slot ≡ None

-- beyond the last slot there is none
past-end : {X : Type 0} (l : List (Option X)) (index : ℕ) → (index < length l → ⊥) → get_or l index None ≡ None
past-end [] index past = refl
past-end (x ∷ l) zero past = absurd (past (omega arith))
past-end (x ∷ l) (suc index) past = past-end l index (λ less. past (omega (arith, less)))

pub free-past : {T : Type 0} (table : ConnectionTable T) → FreeFrom (length (connections table)) table
free-past table slot past = past-end (connections table) slot past

pub free-next : {T : Type 0} (count slot : ℕ) (result : Option (OpenConnection T)) (old new : ConnectionTable T) → FreeFrom count old → slot < count → LeftOrStayed slot result old new
    → FreeFrom count new
free-next {T} count slot result old new free within left one past =
    let apart : one ≡ slot → ⊥ = λ is. past (subst (λ (k : ℕ). k < count) (sym is) within) in
    left-others slot result old new left one apart ∙ free one past

-- one more slot has no connection, or one that is being answered
pub answered-next : {T : Type 0} (slot : ℕ) (result : Option (OpenConnection T)) (old new : ConnectionTable T) → AnsweredUpTo slot old → LeftOrStayed slot result old new
    → IfNone result (IsAnswering (at_slot (connections old) slot)) → AnsweredUpTo (slot + 1) new
answered-next {T} slot result old new was left answered one less = go (one == slot) refl result left answered
  where
    go : (b : Bool) → (one == slot) ≡ b → (r : Option (OpenConnection T)) → LeftOrStayed slot r old new → IfNone r (IsAnswering (at_slot (connections old) slot)) → IsAnswering (at_slot (connections new) one)
    go true e None same here =
        let is : one ≡ slot = eqb-true one slot e in
        subst (λ (k : ℕ). IsAnswering (at_slot (connections new) k)) (sym is) (subst (λ (l : List (Option (OpenConnection T))). IsAnswering (at_slot l slot)) (sym same) here)
    go true e (Some connection) gone here =
        let is : one ≡ slot = eqb-true one slot e in
        subst (λ (k : ℕ). IsAnswering (at_slot (connections new) k)) (sym is) (subst (λ (o : Option (OpenConnection T)). IsAnswering o) (sym gone.gone) tt)
    go false e r l here =
        let apart : one ≡ slot → ⊥ = eqb-false one slot e in
        subst (λ (o : Option (OpenConnection T)). IsAnswering o) (sym (left-others slot r old new l one apart)) (was one (omega (arith, less, apart)))

-- all of them, once each slot was looked at
pub answered-all : {T : Type 0} (count : ℕ) (table : ConnectionTable T) → AnsweredUpTo count table → FreeFrom count table → (slot : ℕ) → IsAnswering (at_slot (connections table) slot)
answered-all {T} count table answered free slot = go (nat_lt slot count) refl
  where
    go : (b : Bool) → nat_lt slot count ≡ b → IsAnswering (at_slot (connections table) slot)
    go true e = answered slot (grind (arith, nat_tests, e))
    go false e = subst (λ (o : Option (OpenConnection T)). IsAnswering o) (sym (free slot (λ less. grind (arith, nat_tests, e, less)))) tt

module _ {A T P : Type 0} (answers : A → List ℕ → Said → A → Type 0) (known : Transport T) (shows : ℕ → Type 0) where
  -- one more round
  rounds-then : (rounds : List (Worker A T P × Worker A T P)) (first last woken next : Worker A T P) (orders : Orders) → AreRounds answers known shows first rounds last → HasWaited shows last woken
      → IsRound answers known orders woken next → AreRounds answers known shows first (rounds ++ (woken, next) ∷ []) next
  rounds-then [] first last woken next orders same waited round = (subst (λ (w : Worker A T P). HasWaited shows w woken) same waited, (orders, round), refl)
  rounds-then ((w, n) ∷ rounds) first last woken next orders (here, made, more) waited round = (here, made, rounds-then rounds n last woken next orders more waited round)

  pub worked-none : (worker : Worker A T P) → HasWorked answers known shows worker worker
  worked-none worker = ([], refl)

  pub worked-then : (first last woken next : Worker A T P) (orders : Orders) → HasWorked answers known shows first last → HasWaited shows last woken → IsRound answers known orders woken next
      → HasWorked answers known shows first next
  worked-then first last woken next orders (rounds, are) waited round = (rounds ++ (woken, next) ∷ [], rounds-then rounds first last woken next orders are waited round)

  -- what each call of a round ensures is a round
  pub round-of : (orders : Orders) (asked : Bool) (old obeyed taken served freed looked new : Worker A T P)
      → HasObeyed old.now orders.is_pressed old.table obeyed.table → obeyed.asks ≡ old.asks → KeepsMoments old obeyed
      → HasRunAt answers known obeyed.now (state obeyed) (state taken) → taken.asks ≡ obeyed.asks → KeepsMoments obeyed taken
      → MatchBool asked (HasTurned answers known (record { least = 1; now = taken.now }) (state taken) (state served)) (HasServedSome answers known (record { least = 64; now = taken.now }) (state taken) (state served))
      → ((queries : List QueryOutcome) × HasAsked answers taken.asks queries served.asks) → KeepsMoments taken served
      → HasMadeRoom served.now served.table freed.table → freed.asks ≡ served.asks → KeepsMoments served freed
      → MatchBool (is_due freed) (HasLooked freed.now freed.table looked.table) (looked.table ≡ freed.table) → looked.asks ≡ freed.asks → looked.now ≡ freed.now
      → looked.looked ≡ (if is_due freed then freed.now else freed.looked)
      → HasEndedBy orders.ending looked.table new.table → new.asks ≡ looked.asks → KeepsMoments looked new → IsRound answers known orders old new
  round-of orders asked old obeyed taken served freed looked new obeys a1 m1 takes a2 m2 turns (queries, once) m3 frees a4 m4 looks a5 n5 last ends a6 m6 =
      let n2 : taken.now ≡ old.now = m2.0 ∙ m1.0 in
      let n3 : served.now ≡ old.now = m3.0 ∙ n2 in
      let n4 : freed.now ≡ old.now = m4.0 ∙ n3 in
      let l4 : freed.looked ≡ old.looked = m4.1 ∙ m3.1 ∙ m2.1 ∙ m1.1 in
      let b2 : taken.asks ≡ old.asks = a2 ∙ a1 in
      record {
        obeyed = obeyed.table;
        taken = taken.table;
        served = state served;
        freed = freed.table;
        looked = looked.table;
        obeys = obeys;
        takes = rw (m1.0, b2, a1) at takes;
        serves = record {
          asked = asked;
          turns = rw (n2, b2) at turns;
          queries = queries;
          once = rw b2 at once;
        };
        frees = rw n3 at frees;
        looks = rw (n4, l4) at looks;
        ends = ends;
        asks = a6 ∙ a5 ∙ a4;
        now = m6.0 ∙ n5 ∙ n4;
        last_look = rw (n4, l4) at (m6.1 ∙ last);
      }
