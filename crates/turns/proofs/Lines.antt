-- Those that wait for room: who leaves them, and in which order.
use Rattle.std.proofs.Common.{◌≡◌, ◌∙◌, ◌<◌, ◌≤◌, ◌+◌, ℕ, suc, List, [], ◌∷◌, ◌++◌, Bool, true, false, ◌||◌, ◌&&◌, ◌==◌, Option, None, Some, length, refl, sym, ap, subst, arith}
use Rattle.std.proofs.lemmas.Bool.{eqb-true, eq-eqb, ne_eqb}
use Rattle.std.proofs.lemmas.List.Folds.{list_any-append}
use Rattle.turns.proofs.Order.{has-joined, before-joined}
use Rattle.turns.specs.Queue.{has, joined, before}
use Rattle.turns.specs.Room.{is_next, is_size, line_after, line_left, waits_for, without}
use Rattle.turns.specs.Table.{Goes, waiting_for, waiting_slots}
use Rattle.turns.specs.declared.answer_size.AnswerSize.{AnswerSize}
use Rattle.turns.specs.declared.answer_size.AnswerSize.TheVariants.{Small, Large}
use Rattle.turns.specs.declared.table.ConnectionTable.{ConnectionTable}
use Rattle.turns.specs.declared.turn.Next.{Next}
use Rattle.turns.specs.declared.turn.Next.TheVariants.{Room}

-- a slot is in one of two queues
pub has-either : (slot : ℕ) (a b : List ℕ) → has slot (a ++ b) ≡ (has slot a || has slot b)
has-either slot a b = list_any-append (λ x. x == slot) a b

or-left : (a b : Bool) → a ≡ true → (a || b) ≡ true
or-left true b is = refl
or-left false b is = absurd (cc is)

pub or-right : (a b : Bool) → b ≡ true → (a || b) ≡ true
or-right true b is = refl
or-right false b is = is

-- a slot that is in one of two queues stays where it stays in each
pub has-still : (slot : ℕ) (a b later_a later_b : List ℕ) → (has slot a ≡ true → has slot later_a ≡ true) → (has slot b ≡ true → has slot later_b ≡ true)
    → has slot (a ++ b) ≡ true → has slot (later_a ++ later_b) ≡ true
has-still slot a b later_a later_b first second there = go (has slot a) refl
  where
    go : (h : Bool) → has slot a ≡ h → has slot (later_a ++ later_b) ≡ true
    go true e = has-either slot later_a later_b ∙ or-left (has slot later_a) (has slot later_b) (first e)
    go false e =
        let in_b : has slot b ≡ true = rw e at (sym (has-either slot a b) ∙ there) in
        has-either slot later_a later_b ∙ or-right (has slot later_a) (has slot later_b) (second in_b)

-- another slot than the one that leaves stays
has-without : (slot one : ℕ) (line : List ℕ) → (slot ≡ one → ⊥) → has slot line ≡ true → has slot (without one line) ≡ true
has-without slot one [] apart there = absurd (cc there)
has-without slot one (x ∷ xs) apart there = go (x == one) refl
  where
    go : (b : Bool) → (x == one) ≡ b → has slot (without one (x ∷ xs)) ≡ true
    go true e =
        let other : (x == slot) ≡ false = ne_eqb x slot (λ same. apart (sym same ∙ eqb-true x one e)) in
        rw e (rw other at there)
    go false e = rw e there

-- it has no more before it
before-without : (slot one : ℕ) (line : List ℕ) → (slot ≡ one → ⊥) → length (before slot (without one line)) ≤ length (before slot line)
before-without slot one [] apart = omega arith
before-without slot one (x ∷ xs) apart = go (x == one) refl
  where
    go : (b : Bool) → (x == one) ≡ b → length (before slot (without one (x ∷ xs))) ≤ length (before slot (x ∷ xs))
    go true e =
        let other : (x == slot) ≡ false = ne_eqb x slot (λ same. apart (sym same ∙ eqb-true x one e)) in
        rw (e, other) (omega arith)
    go false e = rw e (omega arith)

-- and one less, where the first left
before-next : (slot one : ℕ) (line : List ℕ) → (slot ≡ one → ⊥) → has slot line ≡ true → is_next one line ≡ true → length (before slot (without one line)) < length (before slot line)
before-next slot one [] apart there next = absurd (cc there)
before-next slot one (x ∷ xs) apart there next =
    let other : (x == slot) ≡ false = ne_eqb x slot (λ same. apart (sym same ∙ eqb-true x one next)) in
    rw (next, other) (omega arith)

-- after a turn of another slot a slot waits as before
pub still-waits : (slot one : ℕ) (had_room waits : Bool) (line : List ℕ) → (slot ≡ one → ⊥) → has slot line ≡ true → has slot (line_after one had_room waits line) ≡ true
still-waits slot one true true line apart there = has-joined slot one (without one line) (has-without slot one line apart there)
still-waits slot one true false line apart there = has-without slot one line apart there
still-waits slot one false true line apart there = has-joined slot one line there
still-waits slot one false false line apart there = there

-- and so it does after its own, where it had no room
pub waits-on : (slot one : ℕ) (waits : Bool) (line : List ℕ) → has slot line ≡ true → has slot (line_after one false waits line) ≡ true
waits-on slot one true line there = has-joined slot one line there
waits-on slot one false line there = there

pub before-on : (slot one : ℕ) (waits : Bool) (line : List ℕ) → has slot line ≡ true → before slot (line_after one false waits line) ≡ before slot line
before-on slot one true line there = before-joined slot one line there
before-on slot one false line there = refl

-- those before a slot, after a turn in which another had room
pub before-after : (slot one : ℕ) (waits : Bool) (line : List ℕ) → (slot ≡ one → ⊥) → has slot line ≡ true → length (before slot (line_after one true waits line)) ≤ length (before slot line)
before-after slot one true line apart there = rw (before-joined slot one (without one line) (has-without slot one line apart there)) (before-without slot one line apart)
before-after slot one false line apart there = before-without slot one line apart

pub before-passed : (slot one : ℕ) (waits : Bool) (line : List ℕ) → (slot ≡ one → ⊥) → has slot line ≡ true → is_next one line ≡ true
    → length (before slot (line_after one true waits line)) < length (before slot line)
before-passed slot one true line apart there next = rw (before-joined slot one (without one line) (has-without slot one line apart there)) (before-next slot one line apart there next)
before-passed slot one false line apart there next = before-next slot one line apart there next

-- a slot that comes to a queue is in it
has-own : (slot : ℕ) (queue : List ℕ) → has slot (joined queue slot) ≡ true
has-own slot queue = go (has slot queue) refl
  where
    go : (b : Bool) → has slot queue ≡ b → has slot (joined queue slot) ≡ true
    go true e = rw e e
    go false e = rw e (has-either slot queue (slot ∷ []) ∙ or-right (has slot queue) ((slot == slot) || false) (rw (eq-eqb slot slot refl) refl))

-- a slot waits for room after a turn that leaves it waiting for that
pub room-waits : (next : Option Next) (size : AnswerSize) (waits : Option AnswerSize) (slot : ℕ) (asks : Bool) (small large later_small later_large : List ℕ) → waits ≡ waits_for next size
    → later_small ≡ line_after slot asks (is_size Small waits) small → later_large ≡ line_after slot asks (is_size Large waits) large → next ≡ Some Room → has slot (later_small ++ later_large) ≡ true
room-waits next Small waits slot asks small large later_small later_large is s l room =
    let h : later_small ≡ joined (line_left slot asks small) slot = s ∙ ap (λ w. line_after slot asks (is_size Small w) small) (is ∙ ap (λ n. waits_for n Small) room) in
    has-either slot later_small later_large ∙ or-left (has slot later_small) (has slot later_large) (subst (λ (q : List ℕ). has slot q ≡ true) (sym h) (has-own slot (line_left slot asks small)))
room-waits next Large waits slot asks small large later_small later_large is s l room =
    let h : later_large ≡ joined (line_left slot asks large) slot = l ∙ ap (λ w. line_after slot asks (is_size Large w) large) (is ∙ ap (λ n. waits_for n Large) room) in
    has-either slot later_small later_large ∙ or-right (has slot later_small) (has slot later_large) (subst (λ (q : List ℕ). has slot q ≡ true) (sym h) (has-own slot (line_left slot asks large)))

-- there is one size of each
pub same-size : (size other : AnswerSize) → is_size size (Some other) ≡ true → other ≡ size
same-size Small Small is = refl
same-size Small Large is = absurd (cc is)
same-size Large Small is = absurd (cc is)
same-size Large Large is = refl

-- where slots come to the queue of those that have a turn, those that wait for room wait as before
pub goes-line : {T : Type 0} (size : AnswerSize) (old new : ConnectionTable T) → Goes old new → waiting_for size new ≡ waiting_for size old
goes-line Small old new goes = goes.small
goes-line Large old new goes = goes.large

pub goes-waiting : {T : Type 0} (old new : ConnectionTable T) → Goes old new → (slot : ℕ) → has slot (waiting_slots old) ≡ true → has slot (waiting_slots new) ≡ true
goes-waiting old new goes slot there =
    has-still slot (waiting_for Small old) (waiting_for Large old) (waiting_for Small new) (waiting_for Large new)
    (λ h. subst (λ (l : List ℕ). has slot l ≡ true) (sym goes.small) h)
    (λ h. subst (λ (l : List ℕ). has slot l ≡ true) (sym goes.large) h)
    there
