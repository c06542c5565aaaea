-- Lists that begin one list.
use Rattle.std.proofs.Common.{◌≡◌, ◌∙◌, ◌≤◌, ℕ, zero, suc, Bool, true, false, if◌then◌else◌, List, [], ◌∷◌, ◌++◌, length, All, IfSome, refl, sym, ap, arith, append_assoc, slice_get}
use Rattle.std.specs.Prelude.{nat_lt}
use Rattle.std.proofs.lemmas.List.{append-nil}
use Rattle.std.proofs.lemmas.List.Elements.{All-head, All-tail}
use Rattle.std.proofs.lemmas.Bool.Decides.{nat_tests}
use mathlib.Core.List.{IsPrefix}
use Rattle.sharing.specs.Sharing.{longer}

-- each list begins itself
pub prefix_self : {B : Type 0} (xs : List B) → IsPrefix xs xs
prefix_self xs = ([], append-nil xs)

-- a prefix of a list is a prefix of a longer one
pub prefix_more : {B : Type 0} (xs ys zs : List B) → IsPrefix xs ys → IsPrefix xs (ys ++ zs)
prefix_more xs ys zs p = (p.0 ++ zs, sym (append_assoc xs p.0 zs) ∙ ap (λ l. l ++ zs) p.1)

pub prefix_trans : {B : Type 0} (xs ys zs : List B) → IsPrefix xs ys → IsPrefix ys zs → IsPrefix xs zs
prefix_trans xs ys zs p q = (p.0 ++ q.0, sym (append_assoc xs p.0 q.0) ∙ (ap (λ l. l ++ q.0) p.1 ∙ q.1))

-- of two prefixes of one list the shorter begins the longer
pub prefix_shorter : {B : Type 0} (xs ys zs : List B) → IsPrefix xs zs → IsPrefix ys zs → length xs ≤ length ys → IsPrefix xs ys
prefix_shorter [] ys zs p q le = (ys, refl)
prefix_shorter (x ∷ xs) [] zs p q le = absurd (omega arith)
prefix_shorter (x ∷ xs) (y ∷ ys) [] p q le = absurd (cc (p.1))
prefix_shorter (x ∷ xs) (y ∷ ys) (z ∷ zs) p q le =
    let heads : x ≡ y = cc (p.1, q.1) in
    let rest = prefix_shorter xs ys zs (p.0, cc (p.1)) (q.0, cc (q.1)) (omega arith) in
    (rest.0, cc (heads, rest.1))

-- a property of both values holds of the one that is chosen
pub either_has : {A : Type 0} (P : A → Type 0) (b : Bool) (x y : A) → P x → P y → P (if b then x else y)
either_has P true x y p q = p
either_has P false x y p q = q

longer_by : {B : Type 0} (xs ys zs : List B) → IsPrefix xs zs → IsPrefix ys zs → (b : Bool) → nat_lt (length xs) (length ys) ≡ b
    → IsPrefix xs (if b then ys else xs) × IsPrefix ys (if b then ys else xs)
longer_by xs ys zs p q true e = (prefix_shorter xs ys zs p q (grind (arith, nat_tests)), prefix_self ys)
longer_by xs ys zs p q false e = (prefix_self xs, prefix_shorter ys xs zs q p (grind (arith, nat_tests)))

-- both begin the longer of two prefixes of one list
pub longer_both : {B : Type 0} (xs ys zs : List B) → IsPrefix xs zs → IsPrefix ys zs → IsPrefix xs (longer xs ys) × IsPrefix ys (longer xs ys)
longer_both xs ys zs p q = longer_by xs ys zs p q (nat_lt (length xs) (length ys)) refl

-- a property of all elements holds of the one at an index
pub all_get : {A : Type 0} (P : A → Type 0) (xs : List A) (k : ℕ) → All P xs → IfSome (slice_get xs k) P
all_get P [] k all = tt
all_get P (x ∷ xs) zero all = All-head P x xs all
all_get P (x ∷ xs) (suc k) all = all_get P xs k (All-tail P x xs all)
