-- Queues, in which each slot is once.
use Rattle.std.proofs.Common.{inl, inr, ◌≡◌, ◌∙◌, ◌<◌, ◌≤◌, ◌+◌, ℕ, cond, true≢false, length-set, List, [], ◌∷◌, ◌++◌, Bool, true, false, not, ◌&&◌, ◌||◌, ◌==◌, get_or, length, refl, sym, ap, subst, arith}
use Rattle.std.proofs.lemmas.Bool.{cases_lt, eqb-true, eqb-false, eq-eqb, ne_eqb}
use Rattle.std.proofs.lemmas.List.{get_or-set_same, get_or-set_other, get_or_past}
use Rattle.std.proofs.lemmas.List.Sums.{sum_by-set, count_by-le-length}
use Rattle.std.proofs.Math.ListN.{set}
use Rattle.std.specs.List.{count_by}
use Rattle.std.proofs.lemmas.List.Folds.{list_any-append}
use Rattle.turns.specs.Queue.{Queue, has, joined, joins, is_set, is_distinct, IsMarked, Event, Ready, Serve, served, before, Fair}

-- both parts of a conjunction hold
pub both : (a b : Bool) → (a && b) ≡ true → (a ≡ true) × (b ≡ true)
both true b e = (refl, e)
both false b e = absurd (cc)

-- neither part of a disjunction holds
pub neither : (a b : Bool) → (a || b) ≡ false → (a ≡ false) × (b ≡ false)
neither true b e = absurd (cc)
neither false b e = (refl, e)

free : (a : Bool) → not a ≡ true → a ≡ false
free true e = absurd (cc)
free false e = refl

-- one more slot is in a queue
has-more : (one slot : ℕ) (queue : List ℕ) → has one (queue ++ slot ∷ []) ≡ (has one queue || ((slot == one) || false))
has-more one slot queue = list_any-append (λ x. x == one) queue (slot ∷ [])

turned : (a b : ℕ) → (a == b) ≡ false → (b == a) ≡ false
turned a b e = ne_eqb b a (λ same. eqb-false a b e (sym same))

pub distinct-more : (queue : List ℕ) (slot : ℕ) → is_distinct queue ≡ true → has slot queue ≡ false → is_distinct (queue ++ slot ∷ []) ≡ true
distinct-more [] slot d n = refl
distinct-more (x ∷ xs) slot d n =
    let (alone, others) = both (not (has x xs)) (is_distinct xs) d in
    let (other, none) = neither (x == slot) (has slot xs) n in
    rw (has-more x slot xs, free (has x xs) alone, turned x slot other, distinct-more xs slot others none) refl

pub marked-more : (marks : List Bool) (queue : List ℕ) (slot : ℕ) → slot < length marks → IsMarked marks queue → IsMarked (set marks slot true) (queue ++ slot ∷ [])
marked-more marks queue slot fits marked one = has-more one slot queue ∙ go (slot == one) refl
  where
    go : (b : Bool) → (slot == one) ≡ b → (has one queue || ((slot == one) || false)) ≡ get_or (set marks slot true) one false
    go true e =
        let same : slot ≡ one = eqb-true slot one e in
        rw e (last (has one queue) ∙ sym (subst (λ (k : ℕ). get_or (set marks slot true) k false ≡ true) same (get_or-set_same marks slot true false fits)))
      where
        last : (a : Bool) → (a || true) ≡ true
        last true = refl
        last false = refl
    go false e =
        rw e (first (has one queue) ∙ marked one ∙ sym (get_or-set_other marks slot one true false (λ same. eqb-false slot one e (sym same))))
      where
        first : (a : Bool) → (a || false) ≡ a
        first true = refl
        first false = refl

-- the slots before one are before it however the queue goes on
ahead-more : (other slot : ℕ) (queue more : List ℕ) → has other (before slot queue) ≡ true → has other (before slot (queue ++ more)) ≡ true
ahead-more other slot [] more ahead = absurd (cc)
ahead-more other slot (x ∷ xs) more ahead = go (λ a. ahead-more other slot xs more a) (x == slot) refl (x == other) refl
  where
    go : (has other (before slot xs) ≡ true → has other (before slot (xs ++ more)) ≡ true) → (b : Bool) → (x == slot) ≡ b → (c : Bool) → (x == other) ≡ c → has other (before slot ((x ∷ xs) ++ more)) ≡ true
    go further true e c f = absurd (let h : false ≡ true = rw e at ahead in cc)
    go further false e true f = rw (e, f) refl
    go further false e false f = rw (e, f) (further (rw (e, f) at ahead))

ahead-joined : (other slot one : ℕ) (queue : List ℕ) → has other (before slot queue) ≡ true → has other (before slot (joined queue one)) ≡ true
ahead-joined other slot one queue ahead = go (has one queue) refl
  where
    go : (b : Bool) → has one queue ≡ b → has other (before slot (joined queue one)) ≡ true
    go true e = rw e ahead
    go false e = rw e (ahead-more other slot queue (one ∷ []) ahead)

-- a slot before another in the queue is served before it
ahead-served : (events : List Event) (other slot : ℕ) (queue : List ℕ) → has other (before slot queue) ≡ true → has slot (served queue events) ≡ true → has other (before slot (served queue events)) ≡ true
ahead-served [] other slot queue ahead found = absurd (cc)
ahead-served (Ready one ∷ events) other slot queue ahead found = ahead-served events other slot (joined queue one) (ahead-joined other slot one queue ahead) found
ahead-served (Serve ∷ events) other slot [] ahead found = absurd (cc)
ahead-served (Serve ∷ events) other slot (x ∷ xs) ahead found = go (λ a f. ahead-served events other slot xs a f) (x == slot) refl (x == other) refl
  where
    go : (has other (before slot xs) ≡ true → has slot (served xs events) ≡ true → has other (before slot (served xs events)) ≡ true) → (b : Bool) → (x == slot) ≡ b → (c : Bool) → (x == other) ≡ c → has other (before slot (x ∷ served xs events)) ≡ true
    go further true e c f = absurd (let h : false ≡ true = rw e at ahead in cc)
    go further false e true f = rw (e, f) refl
    go further false e false f = rw (e, f) (further (rw (e, f) at ahead) (rw e at found))

-- a slot that isn't in a queue has all of it before it
all-before : (slot : ℕ) (queue : List ℕ) → has slot queue ≡ false → before slot queue ≡ queue
all-before slot [] none = refl
all-before slot (x ∷ xs) none =
    let (other, others) = neither (x == slot) (has slot xs) none in
    rw (other, all-before slot xs others) refl

pub fair : Fair
fair slot other queue events distinct there again =
    let (alone, others) = both (not (has slot queue)) (is_distinct queue) distinct in
    ahead-served events other slot queue (rw (all-before slot queue (free (has slot queue) alone)) there) again

-- how many marks are set, once one is changed
count-set : (marks : List Bool) (slot : ℕ) (new : Bool) → slot < length marks → count_by is_set (set marks slot new) + cond (get_or marks slot false) 1 0 ≡ count_by is_set marks + cond new 1 0
count-set marks slot new known = sum_by-set (λ b. cond (is_set b) 1 0) marks slot new false known

pub count-more : (marks : List Bool) (slot : ℕ) → slot < length marks → get_or marks slot false ≡ false → count_by is_set (set marks slot true) ≡ count_by is_set marks + 1
count-more marks slot known out = omega (arith, rw out at (count-set marks slot true known))

pub count-less : (marks : List Bool) (slot : ℕ) → slot < length marks → get_or marks slot false ≡ true → count_by is_set (set marks slot false) + 1 ≡ count_by is_set marks
count-less marks slot known was = omega (arith, rw was at (count-set marks slot false known))

-- where one isn't set, not all are
pub count-room : (marks : List Bool) (slot : ℕ) → slot < length marks → get_or marks slot false ≡ false → count_by is_set marks < length marks
count-room marks slot known out = omega (arith, count-more marks slot known out, count_by-le-length is_set (set marks slot true), length-set marks slot true)

-- the first of a queue is marked, and is in it once
has-first : (slot : ℕ) (queue : List ℕ) → has slot (slot ∷ queue) ≡ true
has-first slot queue = rw (eq-eqb slot slot refl) refl

pub first-marked : (marks : List Bool) (slot : ℕ) (queue : List ℕ) → IsMarked marks (slot ∷ queue) → get_or marks slot false ≡ true
first-marked marks slot queue marked = sym (marked slot) ∙ has-first slot queue

pub first-below : (marks : List Bool) (slot : ℕ) (queue : List ℕ) → IsMarked marks (slot ∷ queue) → length marks ≤ slot → ⊥
first-below marks slot queue marked past = true≢false (sym (first-marked marks slot queue marked) ∙ get_or_past marks slot false past)

pub distinct-rest : (slot : ℕ) (queue : List ℕ) → is_distinct (slot ∷ queue) ≡ true → is_distinct queue ≡ true
distinct-rest slot queue distinct = (both (not (has slot queue)) (is_distinct queue) distinct).1

pub marked-rest : (marks : List Bool) (slot : ℕ) (queue : List ℕ) → slot < length marks → is_distinct (slot ∷ queue) ≡ true → IsMarked marks (slot ∷ queue) → IsMarked (set marks slot false) queue
marked-rest marks slot queue fits distinct marked one = go (slot == one) refl
  where
    alone : has slot queue ≡ false
    alone = free (has slot queue) (both (not (has slot queue)) (is_distinct queue) distinct).0

    go : (b : Bool) → (slot == one) ≡ b → has one queue ≡ get_or (set marks slot false) one false
    go true e =
        let same : slot ≡ one = eqb-true slot one e in
        subst (λ (k : ℕ). has k queue ≡ get_or (set marks slot false) k false) same (alone ∙ sym (get_or-set_same marks slot false false fits))
    go false e =
        let is : has one queue ≡ get_or marks one false = rw e at (marked one) in
        is ∙ sym (get_or-set_other marks slot one false false (λ same. eqb-false slot one e (sym same)))

-- a list that has a first element
pub first-is : (xs : List ℕ) (x : ℕ) → 0 < length xs → x ≡ get_or xs 0 x → (rest : List ℕ) × (xs ≡ x ∷ rest)
first-is [] x some is = absurd (omega (arith, some))
first-is (y ∷ ys) x some is = (ys, ap (λ h. h ∷ ys) (sym is))

-- a slot comes to a queue, if there is such a slot
pub add-joins : (old new : Queue) (slot : ℕ) → (slot < old.slots → new ≡ record old { order = joined old.order slot }) → (old.slots ≤ slot → new ≡ old) → (slots : List ℕ) × (new.order ≡ joins old.order slots)
add-joins old new slot comes stays = elim (cases_lt slot old.slots) [
  | inl below ↦ (slot ∷ [], ap (λ (q : Queue). q.order) (comes below))
  | inr past ↦ ([], ap (λ (q : Queue). q.order) (stays past))
]

-- a slot in a queue stays there while others come
pub has-joined : (slot one : ℕ) (queue : List ℕ) → has slot queue ≡ true → has slot (joined queue one) ≡ true
has-joined slot one queue there = go (has one queue) refl
  where
    first : (a b : Bool) → a ≡ true → (a || b) ≡ true
    first true b is = refl
    first false b is = absurd (cc is)

    go : (b : Bool) → has one queue ≡ b → has slot (joined queue one) ≡ true
    go true e = rw e there
    go false e = rw e (list_any-append (λ x. x == slot) queue (one ∷ []) ∙ first (has slot queue) ((one == slot) || false) there)

pub has-joins : (slot : ℕ) (queue ones : List ℕ) → has slot queue ≡ true → has slot (joins queue ones) ≡ true
has-joins slot queue [] there = there
has-joins slot queue (one ∷ ones) there = has-joins slot (joined queue one) ones (has-joined slot one queue there)

-- the slots before one in a queue are the same while others come
before-more : (slot : ℕ) (queue more : List ℕ) → has slot queue ≡ true → before slot (queue ++ more) ≡ before slot queue
before-more slot [] more there = absurd (cc there)
before-more slot (x ∷ xs) more there = go (λ h. before-more slot xs more h) (x == slot) refl
  where
    go : (has slot xs ≡ true → before slot (xs ++ more) ≡ before slot xs) → (b : Bool) → (x == slot) ≡ b → before slot ((x ∷ xs) ++ more) ≡ before slot (x ∷ xs)
    go further true e = rw e refl
    go further false e = rw e (ap (λ l. x ∷ l) (further (rw e at there)))

pub before-joined : (slot one : ℕ) (queue : List ℕ) → has slot queue ≡ true → before slot (joined queue one) ≡ before slot queue
before-joined slot one queue there = go (has one queue) refl
  where
    go : (b : Bool) → has one queue ≡ b → before slot (joined queue one) ≡ before slot queue
    go true e = rw e refl
    go false e = rw e (before-more slot queue (one ∷ []) there)

pub before-joins : (slot : ℕ) (queue ones : List ℕ) → has slot queue ≡ true → before slot (joins queue ones) ≡ before slot queue
before-joins slot queue [] there = refl
before-joins slot queue (one ∷ ones) there = before-joins slot (joined queue one) ones (has-joined slot one queue there) ∙ before-joined slot one queue there

joins-append : (queue ones others : List ℕ) → joins (joins queue ones) others ≡ joins queue (ones ++ others)
joins-append queue [] others = refl
joins-append queue (one ∷ ones) others = joins-append (joined queue one) ones others

-- some slots come, and then others
pub joins-then : (a b c : List ℕ) → (ones : List ℕ) × (b ≡ joins a ones) → (others : List ℕ) × (c ≡ joins b others) → (slots : List ℕ) × (c ≡ joins a slots)
joins-then a b c (ones, first) (others, second) = (ones ++ others, second ∙ (ap (λ l. joins l others) first ∙ joins-append a ones others))

-- the first was served, and then some slots came
pub served-joins : (old rest new : List ℕ) (slot : ℕ) → old ≡ slot ∷ rest → (slots : List ℕ) × (new ≡ joins rest slots) → (others : List ℕ) × (slots : List ℕ) × (old ≡ slot ∷ others) × (new ≡ joins others slots)
served-joins old rest new slot is (slots, comes) = (rest, slots, is, comes)
