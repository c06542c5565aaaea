-- Marked columns, one after another.
use Rattle.std.proofs.Common.{◌≡◌, ◌∙◌, ℕ, ◌+◌, ◌<◌, ◌≤◌, Bool, true, false, ◌&&◌, ◌||◌, List, length, get_or, replicate, take, set, refl, sym, ap, arith, ⊎_elim}
use Rattle.std.proofs.lemmas.Bool.{cases_lt, lt-ltb, le-ltb, lt-leb, le-leb}
use Rattle.std.proofs.lemmas.List.{get_or-replicate, get_or-set_other, get_or-set_same, length-set}
use Rattle.std.proofs.lemmas.List.Folds.{list_any_more}
use Rattle.std.specs.List.{list_any}
use Rattle.std.specs.Prelude.{nat_le}
use Rattle.scanfill.specs.declared.span.Span.{Span}
use Rattle.scanfill.specs.Runs.{has_column}
use Rattle.strokes.specs.Columns.{AreMarked, is_marked}
use Rattle.strokes.proofs.Keeping.{none}

-- a span without columns has none
pub no-column : (span : Span) (i : ℕ) → span.to ≤ span.from → has_column span i ≡ false
no-column span i h = ⊎_elim
    (λ (lt : i < span.from). rw (lt-leb span.from i lt))
    (λ (ge : span.from ≤ i). rw (le-ltb i span.to (omega arith)) (none (nat_le span.from i)))
    (cases_lt i span.from)

pub marked-none : (from : ℕ) (marks : List Bool) → AreMarked (record { from = from; to = from }) marks marks
marked-none from marks = record {
  width = refl;
  all = λ i h. sym (ap (λ t. t || is_marked marks i) (no-column (record { from = from; to = from }) i (omega arith)));
}

-- one more column
pub marked-next : (from column : ℕ) (old now : List Bool) → from ≤ column → column < length now → AreMarked (record { from = from; to = column }) old now →
    AreMarked (record { from = from; to = column + 1 }) old (set now column true)
marked-next from column old now first bound are = record {
  width = length-set now column true ∙ are.width;
  all = λ i h. ⊎_elim
      (λ (lt : i < column).
      get_or-set_other now column i true false (λ e. absurd (omega arith))
      ∙ (are.all i h ∙ ap (λ t. (nat_le from i && t) || is_marked old i) (lt-ltb i column lt ∙ sym (lt-ltb i (column + 1) (omega arith)))))
      (λ (ge : column ≤ i). ⊎_elim
      (λ (at : i < column + 1).
      let same : i ≡ column = omega arith in
      rw (same, le-leb from column first, lt-ltb column (column + 1) (omega arith)) (get_or-set_same now column true false bound))
      (λ (past : (column + 1) ≤ i).
      get_or-set_other now column i true false (λ e. absurd (omega arith))
      ∙ (are.all i h ∙ ap (λ t. (nat_le from i && t) || is_marked old i) (le-ltb i column ge ∙ sym (le-ltb i (column + 1) past))))
      (cases_lt i (column + 1)))
      (cases_lt i column);
}

-- what one more element marks
pub marked-more : {X : Type 0} (f : X → Bool) (xs : List X) (k : ℕ) (x : X) (old now new : Bool) → k < length xs → x ≡ get_or xs k x →
    new ≡ (f x || now) → now ≡ (list_any f (take k xs) || old) → new ≡ (list_any f (take (k + 1) xs) || old)
marked-more f xs k x old now new bound is e before =
    let more : list_any f (take (k + 1) xs) ≡ (list_any f (take k xs) || f x) =
    list_any_more f xs k x bound ∙ ap (λ y. list_any f (take k xs) || f y) (sym is) in
    e ∙ (ap (λ t. f x || t) before ∙ (swap (f x) (list_any f (take k xs)) old ∙ sym (ap (λ t. t || old) more)))
  where
    swap : (t u v : Bool) → (t || (u || v)) ≡ ((u || t) || v)
    swap true true v = refl
    swap true false v = refl
    swap false true v = refl
    swap false false v = refl

-- one more element that doesn't pass
pub none-more : {X : Type 0} (f : X → Bool) (xs : List X) (k : ℕ) (x : X) → k < length xs → x ≡ get_or xs k x →
    list_any f (take k xs) ≡ false → f x ≡ false → list_any f (take (k + 1) xs) ≡ false
none-more f xs k x bound is before h =
    list_any_more f xs k x bound ∙ (ap (λ t. t || f (get_or xs k x)) before ∙ (ap f (sym is) ∙ h))

-- one of two that don't pass
pub or-none : (t u : Bool) → t ≡ false → u ≡ false → (t || u) ≡ false
or-none t u p q = ap (λ x. x || u) p ∙ q

-- the marks of one group, on none before
pub marked-one : (n i : ℕ) (test : Bool) (none_yet marks : List Bool) → i < n → none_yet ≡ replicate n false → is_marked marks i ≡ (test || is_marked none_yet i) → is_marked marks i ≡ test
marked-one n i test none_yet marks h blank e = e ∙ (ap (λ t. test || t) (ap (λ xs. is_marked xs i) blank ∙ get_or-replicate n i false false h) ∙ last test)
  where
    last : (t : Bool) → (t || false) ≡ t
    last true = refl
    last false = refl

-- what two rounds of marks come to, over none
pub marked-all : (n i : ℕ) (first second : Bool) (none_yet one both : List Bool) → i < n → none_yet ≡ replicate n false →
    is_marked one i ≡ (first || is_marked none_yet i) → is_marked both i ≡ (second || is_marked one i) → is_marked both i ≡ (first || second)
marked-all n i first second none_yet one both h blank e f =
    f ∙ (ap (λ t. second || t) (e ∙ ap (λ t. first || t) (ap (λ xs. is_marked xs i) blank ∙ get_or-replicate n i false false h)) ∙ swap first second)
  where
    swap : (t u : Bool) → (u || (t || false)) ≡ (t || u)
    swap true true = refl
    swap true false = refl
    swap false true = refl
    swap false false = refl
