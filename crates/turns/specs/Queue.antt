-- Which connection has the next turn (docs/WMS.md, "HTTP").
use Rattle.std.specs.Prelude.{◌≡◌, ◌≤◌, ℕ, List, [], ◌∷◌, ◌++◌, Bool, true, false, not, ◌&&◌, ◌==◌, if◌then◌else◌, get_or, length}
use Rattle.std.specs.List.{list_any, count_by}

-- slots in order, of so many slots
pub record Queue : Type 0 where
  pub slots : ℕ
  pub order : List ℕ

-- whether a slot is in a queue
abbrev pub has : ℕ → List ℕ → Bool
has slot queue = list_any (λ x. x == slot) queue

-- a slot comes to the end, unless it is in the queue
abbrev pub joined : List ℕ → ℕ → List ℕ
joined queue slot = if has slot queue then queue else (queue ++ slot ∷ [])

-- some slots come, one after the other
abbrev pub joins : List ℕ → List ℕ → List ℕ
joins queue [] = queue
joins queue (slot ∷ slots) = joins (joined queue slot) slots

-- each slot is in it once
abbrev pub is_distinct : List ℕ → Bool
is_distinct [] = true
is_distinct (slot ∷ slots) = not (has slot slots) && is_distinct slots

-- the marks say which slots are in it
abbrev pub IsMarked : List Bool → List ℕ → Type 0
IsMarked marks queue = (slot : ℕ) → has slot queue ≡ get_or marks slot false

-- whether a slot is in it, by its mark
abbrev pub is_set : Bool → Bool
is_set mark = mark

-- each slot is in it once, the marks say which, and there is capacity for all
pub record IsQueue (marks : List Bool) (queue : List ℕ) (len capacity : ℕ) : Type 0 where
  pub distinct : is_distinct queue ≡ true
  pub marked : IsMarked marks queue
  pub counted : len ≡ count_by is_set marks
  pub room : length marks ≤ capacity

-- what happens to a queue: a slot becomes ready, or the first is served
pub data Event : Type 0 where
  Ready : ℕ → Event
  Serve : Event

-- the slots that are served, one after the other
abbrev pub served : List ℕ → List Event → List ℕ
served queue [] = []
served queue (Ready slot ∷ events) = served (joined queue slot) events
served [] (Serve ∷ events) = served [] events
served (slot ∷ queue) (Serve ∷ events) = slot ∷ served queue events

-- the slots before the first occurrence of a slot
abbrev pub before : ℕ → List ℕ → List ℕ
before slot [] = []
before slot (x ∷ xs) = if x == slot then [] else (x ∷ before slot xs)

-- the law of fairness: a slot that is in the queue when another is served is served before that one is served again
abbrev pub Fair : Type 0
Fair = (slot other : ℕ) (queue : List ℕ) (events : List Event) → is_distinct (slot ∷ queue) ≡ true → has other queue ≡ true
    → has slot (served queue events) ≡ true → has other (before slot (served queue events)) ≡ true
