-- The columns that a round segment covers, by some of them and those beside it.
use Rattle.std.proofs.Common.{◌≡◌, ◌∙◌, ℕ, ◌+◌, ◌-◌, ◌<◌, ◌≤◌, Bool, true, false, ◌||◌, ◌⊎◌, inl, inr, refl, sym, ap, arith, ⊎_elim}
use Rattle.std.proofs.lemmas.Bool.{cases_lt, false≢true, or_left, or_right}
use Rattle.geom.proofs.Products.{same_test}
use Rattle.scanfill.specs.declared.span.Span.{Span}
use Rattle.scanfill.specs.Runs.{has_column}
use Rattle.strokes.specs.Round.{joined}
use Rattle.strokes.proofs.Marking.{no-column}
use Rattle.strokes.proofs.Rounded.{PassesBetween, has-from, has-parts, joined-first, joined-pass, joined-second}

-- the columns that one of two tests passes, or a third one
abbrev pub AreParts : (ℕ → Bool) → (ℕ → Bool) → (ℕ → Bool) → (ℕ → Bool) → Type 0
AreParts test f g h = (i : ℕ) → test i ≡ ((f i || g i) || h i)

-- a span of columns that pass, and all that pass one of the first two tests are in it
pub record IsCore (test f g : ℕ → Bool) (span : Span) (end : ℕ) : Type 0 where
  pub some : span.from < span.to
  pub within : span.to ≤ end
  pub pass : (i : ℕ) → has_column span i ≡ true → test i ≡ true
  pub all : (i : ℕ) → i < end → (f i || g i) ≡ true → has_column span i ≡ true

-- the columns of a span, and those on both sides that pass a test, up to one that doesn't
pub record IsWidened (h : ℕ → Bool) (span wide : Span) (end : ℕ) : Type 0 where
  pub before : wide.from ≤ span.from
  pub behind : span.to ≤ wide.to
  pub within : wide.to ≤ end
  pub left : (i : ℕ) → wide.from ≤ i → i < span.from → h i ≡ true
  pub right : (i : ℕ) → span.to ≤ i → i < wide.to → h i ≡ true
  pub first : 0 < wide.from → h (wide.from - 1) ≡ false
  pub last : wide.to < end → h wide.to ≡ false

-- a column that isn't in the core and doesn't pass the third test passes none
not-passed : (test f g h : ℕ → Bool) (span : Span) (end n : ℕ) → AreParts test f g h → IsCore test f g span end → n < end → h n ≡ false → (has_column span n ≡ true → ⊥) → test n ≡ true → ⊥
not-passed test f g h span end n parts core less none out e = go (f n || g n) refl
  where
    go : (t : Bool) → (f n || g n) ≡ t → ⊥
    go true p = out (core.all n less p)
    go false p = false≢true (sym (ap (λ t. t || h n) p ∙ none) ∙ (sym (parts n) ∙ e))

pub widened-all : (test f g h : ℕ → Bool) (span wide : Span) (end : ℕ) → PassesBetween test → AreParts test f g h → IsCore test f g span end → IsWidened h span wide end →
    (i : ℕ) → i < end → has_column wide i ≡ test i
widened-all test f g h span wide end between parts core is i less = same_test (has_column wide i) (test i) there back
  where
    there : has_column wide i ≡ true → test i ≡ true
    there e =
        let ends = has-parts wide i e in
        ⊎_elim
        (λ (p : i < span.from). parts i ∙ or_right (f i || g i) (h i) (is.left i ends.0 p))
        (λ (p : span.from ≤ i). ⊎_elim
        (λ (q : i < span.to). core.pass i (has-from span i p q))
        (λ (q : span.to ≤ i). parts i ∙ or_right (f i || g i) (h i) (is.right i q ends.1))
        (cases_lt i span.to))
        (cases_lt i span.from)

    lower : test i ≡ true → ((i < wide.from) ⊎ (wide.from ≤ i)) → wide.from ≤ i
    lower e (inr more) = more
    lower e (inl before) =
        let one : test span.from ≡ true = core.pass span.from (has-from span span.from (omega arith) core.some) in
        let here = between i (wide.from - 1) span.from (omega arith) (omega (arith, is.before)) e one in
        absurd (not-passed test f g h span end (wide.from - 1) parts core (omega (arith, is.before, core.some, core.within)) (is.first (omega arith))
        (λ (p : has_column span (wide.from - 1) ≡ true). outside (has-parts span (wide.from - 1) p).0) here)
      where
        outside : span.from ≤ wide.from - 1 → ⊥
        outside p = omega (arith, is.before, before)

    upper : test i ≡ true → ((i < wide.to) ⊎ (wide.to ≤ i)) → i < wide.to
    upper e (inl before) = before
    upper e (inr behind) =
        let one : test (span.to - 1) ≡ true = core.pass (span.to - 1) (has-from span (span.to - 1) (omega (arith, core.some)) (omega (arith, core.some))) in
        let here = between (span.to - 1) wide.to i (omega (arith, is.behind)) behind one e in
        absurd (not-passed test f g h span end wide.to parts core (omega (arith, less)) (is.last (omega (arith, less)))
        (λ (p : has_column span wide.to ≡ true). outside (has-parts span wide.to p).1) here)
      where
        outside : wide.to < span.to → ⊥
        outside p = omega (arith, is.behind)

    back : test i ≡ true → has_column wide i ≡ true
    back e = has-from wide i (lower e (cases_lt i wide.from)) (upper e (cases_lt i wide.to))

-- a column of two spans is one of the joined columns
pub in-joined : (f g : ℕ → Bool) (a b : Span) (end : ℕ) → ((i : ℕ) → i < end → has_column a i ≡ f i) → ((i : ℕ) → i < end → has_column b i ≡ g i) →
    (i : ℕ) → i < end → (f i || g i) ≡ true → has_column (joined a b) i ≡ true
in-joined f g a b end p q i less e = go (f i) refl
  where
    go : (t : Bool) → f i ≡ t → has_column (joined a b) i ≡ true
    go true h = joined-first a b i (p i less ∙ h)
    go false h = joined-second a b i (q i less ∙ (sym (ap (λ t. t || g i) h) ∙ e))

-- the joined columns of two discs are a core, if there are any
pub discs-core : (test f g h : ℕ → Bool) (a b : Span) (end : ℕ) → PassesBetween test → AreParts test f g h → a.to ≤ end → b.to ≤ end → (joined a b).from < (joined a b).to → (joined a b).to ≤ end →
    ((i : ℕ) → i < end → has_column a i ≡ f i) → ((i : ℕ) → i < end → has_column b i ≡ g i) → IsCore test f g (joined a b) end
discs-core test f g h a b end between parts wa wb some within fa fb = record {
  some = some;
  within = within;
  pass = λ i e. joined-pass test a b i between one two e;
  all = λ i less e. in-joined f g a b end fa fb i less e;
}
  where
    one : (n : ℕ) → has_column a n ≡ true → test n ≡ true
    one n e = parts n ∙ or_left (f n || g n) (h n) (or_left (f n) (g n) (sym (fa n (omega (arith, (has-parts a n e).1))) ∙ e))

    two : (n : ℕ) → has_column b n ≡ true → test n ≡ true
    two n e = parts n ∙ or_left (f n || g n) (h n) (or_right (f n) (g n) (sym (fb n (omega (arith, (has-parts b n e).1))) ∙ e))

-- where there are none, a column beside is one
pub beside-core : (test f g h : ℕ → Bool) (discs : Span) (end column : ℕ) → AreParts test f g h → discs.to ≤ discs.from → ((i : ℕ) → i < end → (f i || g i) ≡ true → has_column discs i ≡ true) →
    column < end → h column ≡ true → IsCore test f g (record { from = column; to = column + 1 }) end
beside-core test f g h discs end column parts none all less e = record {
  some = omega arith;
  within = omega arith;
  pass = λ i q.
      let ends = has-parts (record { from = column; to = column + 1 }) i q in
      let same : i ≡ column = omega (arith, ends.0, ends.1) in
      rw same (parts column ∙ or_right (f column || g column) (h column) e);
  all = λ i under q. absurd (false≢true (sym (no-column discs i none) ∙ all i under q));
}

-- and where there is none beside either, nothing is covered
pub none-covered : (test f g h : ℕ → Bool) (discs : Span) (end : ℕ) → AreParts test f g h → discs.to ≤ discs.from → ((i : ℕ) → i < end → (f i || g i) ≡ true → has_column discs i ≡ true) →
    ((i : ℕ) → i < end → h i ≡ false) → (i : ℕ) → i < end → test i ≡ false
none-covered test f g h discs end parts none all beside i less = parts i ∙ go (f i || g i) refl
  where
    go : (t : Bool) → (f i || g i) ≡ t → ((f i || g i) || h i) ≡ false
    go true p = absurd (false≢true (sym (no-column discs i none) ∙ all i less p))
    go false p = ap (λ t. t || h i) p ∙ beside i less
