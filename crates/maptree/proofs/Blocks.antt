-- How many tokens the reading of a block takes.
use Rattle.std.proofs.Common.{◌≡◌, ℕ, zero, suc, ◌≤◌, List, [], ◌∷◌, length, refl, ap, ◌∙◌, arith, IfOk}
use Rattle.std.specs.Prelude.{Result, Ok, Err}
use Rattle.maplex.specs.declared.fault.Tail.{Tail}
use Rattle.maplex.specs.Token.{TokenValue}
use Rattle.mapwords.specs.declared.role.Block.{Block}
use Rattle.mapwords.specs.declared.fault.Fault.{Fault}
use Rattle.maptree.specs.Data.{lacks_room}
use Rattle.maptree.specs.Entries.{Entries, Nothing, with_block}
use Rattle.maptree.specs.Tree.{files_used}
use Rattle.mapdefs.specs.Outcome.{and_then}
use Rattle.mapwords.specs.Given.{value_in}
use Rattle.maptree.specs.Meaning.{latitude_in, block_in, CountIsEnough}
use Rattle.maptree.specs.Says.{Saying, Ends, Opens, Takes, Longitude, Skips, says}
use Rattle.maptree.proofs.OnePass.{BlockRead, block_after, value-left, latitude-left}

-- at most so many tokens are left
abbrev LeavesAtMost : ℕ → BlockRead → Type 0
LeavesAtMost n r = IfOk r (λ e. length e.1 ≤ n)

leaves_more : (m n : ℕ) (r : BlockRead) → m ≤ n → LeavesAtMost m r → LeavesAtMost n r
leaves_more m n (Ok e) p q = omega arith
leaves_more m n (Err f) p q = tt

leaves-and_then : {X : Type 0} (r : Result X Fault) (P : X → Type 0) (n : ℕ) (next : X → BlockRead) → IfOk r P → ((x : X) → P x → LeavesAtMost n (next x)) → LeavesAtMost n (and_then r next)
leaves-and_then (Ok x) P n next p q = q x p
leaves-and_then (Err f) P n next p q = tt

same-while : {X : Type 0} (r : Result X Fault) (P : X → Type 0) (next other : X → BlockRead) → IfOk r P → ((x : X) → P x → next x ≡ other x) → and_then r next ≡ and_then r other
same-while (Ok x) P next other p q = q x p
same-while (Err f) P next other p q = refl

module _ (tail : Tail) (n : ℕ) (below : (b : Block) (above own : Entries) (ts : List TokenValue) → LeavesAtMost (length ts) (block_in tail n b above own ts)) where
  leaves-saying : (saying : Saying) (b : Block) (above own : Entries) (ts : List TokenValue) → LeavesAtMost (length ts) (block_after tail n b above own ts saying)
  leaves-saying Ends b above own ts = omega arith
  leaves-saying (Opens c) b above own ts =
      leaves-and_then (block_in tail n c own Nothing ts) (λ e. length e.1 ≤ length ts) (length ts) _ (below c own Nothing ts) (λ e l. leaves_more (length e.1) (length ts) _ l (below b above _ e.1))
  leaves-saying (Takes e) b above own ts =
      leaves-and_then (value_in tail (lacks_room b (files_used own)) e ts) (λ v. length v.rest ≤ length ts) (length ts) _ (value-left tail (lacks_room b (files_used own)) e ts) (λ v l. leaves_more (length v.rest) (length ts) _ l (below b above _ v.rest))
  leaves-saying Skips b above own ts = below b above own ts
  leaves-saying (Longitude x) b above own ts =
      leaves-and_then (latitude_in tail ts) (λ y. length y.1 ≤ length ts) (length ts) _ (latitude-left tail ts) (λ y l. leaves_more (length y.1) (length ts) _ l (below b above _ y.1))

  leaves-said : (said : Result Saying Fault) (b : Block) (above own : Entries) (ts : List TokenValue) (m : ℕ) → length ts ≤ m → LeavesAtMost m (and_then said (block_after tail n b above own ts))
  leaves-said (Ok saying) b above own ts m p = leaves_more (length ts) m _ p (leaves-saying saying b above own ts)
  leaves-said (Err f) b above own ts m p = tt

-- no token is left that was not there
pub block-at_most : (tail : Tail) (n : ℕ) (b : Block) (above own : Entries) (ts : List TokenValue) → LeavesAtMost (length ts) (block_in tail n b above own ts)
unfolding block_in
block-at_most tail zero b above own [] = tt
block-at_most tail (suc n) b above own [] = tt
block-at_most tail zero b above own (t ∷ ts) = tt
block-at_most tail (suc n) b above own (t ∷ ts) =
    leaves-said tail n (block-at_most tail n) (says b above own t) b above own ts (length (t ∷ ts)) (omega arith)

module _ (tail : Tail) (n m : ℕ) (below : (b : Block) (above own : Entries) (ts : List TokenValue) → length ts ≤ n → length ts ≤ m → block_in tail n b above own ts ≡ block_in tail m b above own ts) where
  same-saying : (saying : Saying) (b : Block) (above own : Entries) (ts : List TokenValue) → length ts ≤ n → length ts ≤ m → block_after tail n b above own ts saying ≡ block_after tail m b above own ts saying
  same-saying Ends b above own ts p q = refl
  same-saying (Opens c) b above own ts p q =
      ap (λ r. and_then r (λ inner. block_in tail n b above (with_block c inner.0 own) inner.1)) (below c own Nothing ts p q)
      ∙ same-while (block_in tail m c own Nothing ts) (λ e. length e.1 ≤ length ts) _ _ (block-at_most tail m c own Nothing ts) (λ e l. below b above _ e.1 (omega arith) (omega arith))
  same-saying (Takes e) b above own ts p q =
      same-while (value_in tail (lacks_room b (files_used own)) e ts) (λ v. length v.rest ≤ length ts) _ _ (value-left tail (lacks_room b (files_used own)) e ts) (λ v l. below b above _ v.rest (omega arith) (omega arith))
  same-saying Skips b above own ts p q = below b above own ts p q
  same-saying (Longitude x) b above own ts p q =
      same-while (latitude_in tail ts) (λ y. length y.1 ≤ length ts) _ _ (latitude-left tail ts) (λ y l. below b above _ y.1 (omega arith) (omega arith))

  same-said : (said : Result Saying Fault) (b : Block) (above own : Entries) (ts : List TokenValue) → length ts ≤ n → length ts ≤ m → and_then said (block_after tail n b above own ts) ≡ and_then said (block_after tail m b above own ts)
  same-said (Ok saying) b above own ts p q = same-saying saying b above own ts p q
  same-said (Err f) b above own ts p q = refl

-- more tokens than there are change nothing
pub block-enough : CountIsEnough
unfolding block_in
block-enough tail zero zero b above own [] p q = refl
block-enough tail zero (suc m) b above own [] p q = refl
block-enough tail (suc n) zero b above own [] p q = refl
block-enough tail (suc n) (suc m) b above own [] p q = refl
block-enough tail zero m b above own (t ∷ ts) p q = absurd (omega arith)
block-enough tail (suc n) zero b above own (t ∷ ts) p q = absurd (omega arith)
block-enough tail (suc n) (suc m) b above own (t ∷ ts) p q =
    same-said tail n m (λ c over inner us. block-enough tail n m c over inner us) (says b above own t) b above own ts (omega arith) (omega arith)
