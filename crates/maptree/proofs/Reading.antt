-- How many tokens reading takes.
use Rattle.std.proofs.Common.{◌≡◌, ℕ, zero, suc, ◌≤◌, List, [], ◌∷◌, length, refl, ap, ◌∙◌, arith, IfOk}
use Rattle.std.specs.Prelude.{Result, Ok, Err}
use Rattle.maplex.specs.declared.fault.Tail.{Tail}
use Rattle.maplex.specs.Token.{TokenValue}
use Rattle.maptree.specs.declared.context.Context.{Context}
use Rattle.maptree.specs.declared.context.Move.{Move}
use Rattle.maptree.specs.declared.context.Move.TheVariants.{GoesOn, Enters, Leaves}
use Rattle.maptree.specs.declared.draft.Drafts.{Drafts}
use Rattle.mapwords.specs.declared.fault.Fault.{Fault}
use Rattle.mapdefs.specs.Outcome.{and_then}
use Rattle.maptree.specs.Step.{read_token}
use Rattle.maptree.specs.Pass.{reads}

-- what is read in a context
abbrev pub Ended : Type 0
Ended = Result (Drafts × List TokenValue) Fault

-- at most so many tokens are left
abbrev pub LeavesAtMost : ℕ → Ended → Type 0
LeavesAtMost n r = IfOk r (λ e. length e.1 ≤ n)

-- what is read after a token
abbrev pub read_after : Tail → ℕ → Context → List TokenValue → Move × Drafts → Ended
read_after tail n context ts step = elim step.0 [
  | GoesOn next ↦ reads tail n next step.1 ts
  | Enters inner ↦ and_then (reads tail n inner step.1 ts) (λ ended. reads tail n context ended.0 ended.1)
  | Leaves ↦ Ok (step.1, ts)
]

leaves-and_then : (m n : ℕ) (r : Ended) (next : Drafts × List TokenValue → Ended) → LeavesAtMost m r → ((e : Drafts × List TokenValue) → length e.1 ≤ m → LeavesAtMost n (next e)) → LeavesAtMost n (and_then r next)
leaves-and_then m n (Ok e) next p q = q e p
leaves-and_then m n (Err f) next p q = tt

leaves_more : (m n : ℕ) (r : Ended) → m ≤ n → LeavesAtMost m r → LeavesAtMost n r
leaves_more m n (Ok e) p q = omega arith
leaves_more m n (Err f) p q = tt

module _ (tail : Tail) (n : ℕ) (below : (context : Context) (d : Drafts) (ts : List TokenValue) → LeavesAtMost (length ts) (reads tail n context d ts)) where
  leaves-move : (move : Move) (context : Context) (d : Drafts) (ts : List TokenValue) → LeavesAtMost (length ts) (read_after tail n context ts (move, d))
  leaves-move (GoesOn next) context d ts = below next d ts
  leaves-move (Enters inner) context d ts =
      leaves-and_then (length ts) (length ts) (reads tail n inner d ts) _ (below inner d ts) (λ e p. leaves_more (length e.1) (length ts) _ p (below context e.0 e.1))
  leaves-move Leaves context d ts = omega arith

  leaves-step : (step : Result (Move × Drafts) Fault) (context : Context) (ts : List TokenValue) (m : ℕ) → length ts ≤ m → LeavesAtMost m (and_then step (read_after tail n context ts))
  leaves-step (Ok step) context ts m p = leaves_more (length ts) m _ p (leaves-move step.0 context step.1 ts)
  leaves-step (Err f) context ts m p = tt

-- no token is left that was not there
pub reads-at_most : (tail : Tail) (n : ℕ) (context : Context) (d : Drafts) (ts : List TokenValue) → LeavesAtMost (length ts) (reads tail n context d ts)
unfolding reads
reads-at_most tail zero context d [] = tt
reads-at_most tail (suc n) context d [] = tt
reads-at_most tail zero context d (t ∷ ts) = tt
reads-at_most tail (suc n) context d (t ∷ ts) =
    leaves-step tail n (reads-at_most tail n) (read_token context d t) context ts (length (t ∷ ts)) (omega arith)

pub same-after : (n : ℕ) (r : Ended) (next other : Drafts × List TokenValue → Ended) → LeavesAtMost n r → ((e : Drafts × List TokenValue) → length e.1 ≤ n → next e ≡ other e) → and_then r next ≡ and_then r other
same-after n (Ok e) next other p q = q e p
same-after n (Err f) next other p q = refl

module _ (tail : Tail) (n m : ℕ) (below : (context : Context) (d : Drafts) (ts : List TokenValue) → length ts ≤ n → length ts ≤ m → reads tail n context d ts ≡ reads tail m context d ts) where
  same-move : (move : Move) (context : Context) (d : Drafts) (ts : List TokenValue) → length ts ≤ n → length ts ≤ m → read_after tail n context ts (move, d) ≡ read_after tail m context ts (move, d)
  same-move (GoesOn next) context d ts p q = below next d ts p q
  same-move (Enters inner) context d ts p q =
      ap (λ r. and_then r (λ e. reads tail n context e.0 e.1)) (below inner d ts p q)
      ∙ same-after (length ts) (reads tail m inner d ts) _ _ (reads-at_most tail m inner d ts) (λ e l. below context e.0 e.1 (omega arith) (omega arith))
  same-move Leaves context d ts p q = refl

  same-step : (step : Result (Move × Drafts) Fault) (context : Context) (ts : List TokenValue) → length ts ≤ n → length ts ≤ m → and_then step (read_after tail n context ts) ≡ and_then step (read_after tail m context ts)
  same-step (Ok step) context ts p q = same-move step.0 context step.1 ts p q
  same-step (Err f) context ts p q = refl

-- more tokens than there are change nothing
pub reads-enough : (tail : Tail) (n m : ℕ) (context : Context) (d : Drafts) (ts : List TokenValue) → length ts ≤ n → length ts ≤ m → reads tail n context d ts ≡ reads tail m context d ts
unfolding reads
reads-enough tail zero zero context d [] p q = refl
reads-enough tail zero (suc m) context d [] p q = refl
reads-enough tail (suc n) zero context d [] p q = refl
reads-enough tail (suc n) (suc m) context d [] p q = refl
reads-enough tail zero m context d (t ∷ ts) p q = absurd (omega arith)
reads-enough tail (suc n) zero context d (t ∷ ts) p q = absurd (omega arith)
reads-enough tail (suc n) (suc m) context d (t ∷ ts) p q =
    same-step tail n m (λ context d ts. reads-enough tail n m context d ts) (read_token context d t) context ts (omega arith) (omega arith)
