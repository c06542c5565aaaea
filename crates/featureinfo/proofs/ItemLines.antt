-- The lines of the items that are left.
use Rattle.std.proofs.Common.{◌≡◌, ◌∙◌, ◌<◌, ◌+◌, ℕ, zero, suc, List, [], ◌∷◌, ◌++◌, length, drop, get_or, Option, Some, None, refl, ap, sym, arith}
use Rattle.std.proofs.Math.Seq.{drop-cons}
use Rattle.std.proofs.lemmas.List.{append-nil, append_assoc}
use Rattle.std.specs.List.{slice_get}
use Rattle.featureinfo.specs.Answer.{item_line, item_lines}

-- what is at an index is the first of those from it on
some-first : (xs : List (List ℕ)) (i : ℕ) (x : List ℕ) → slice_get xs i ≡ Some x → drop i xs ≡ x ∷ drop (suc i) xs
some-first [] i x h = absurd (cc h)
some-first (y ∷ ys) zero x h = cc h
some-first (y ∷ ys) (suc i) x h = some-first ys i x h

none-first : (xs : List (List ℕ)) (i : ℕ) → slice_get xs i ≡ None → drop i xs ≡ []
none-first [] zero h = refl
none-first [] (suc i) h = refl
none-first (y ∷ ys) zero h = absurd (cc h)
none-first (y ∷ ys) (suc i) h = none-first ys i h

-- one line more
pub line-more : (out all : List ℕ) (names values : List (List ℕ)) (i : ℕ) (name value : List ℕ) → i < length names → name ≡ get_or names i name → slice_get values i ≡ Some value →
    out ++ item_lines (drop i names) (drop i values) ≡ all → (out ++ item_line name value) ++ item_lines (drop (suc i) names) (drop (suc i) values) ≡ all
line-more out all names values i name value h at there so_far =
    append_assoc out (item_line name value) (item_lines (drop (suc i) names) (drop (suc i) values))
    ∙ rw (drop-cons names i name h, ← at, some-first values i value there) at so_far

no-lines : (names : List (List ℕ)) → item_lines names [] ≡ []
no-lines [] = refl
no-lines (name ∷ names) = refl

-- no value is left, or no name
pub lines-end : (out all : List ℕ) (names values : List (List ℕ)) (i : ℕ) → slice_get values i ≡ None → out ++ item_lines (drop i names) (drop i values) ≡ all → out ≡ all
lines-end out all names values i none so_far = sym (append-nil out) ∙ (rw (none-first values i none, no-lines (drop i names)) at so_far)
