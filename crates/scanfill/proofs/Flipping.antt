-- Lists of flips, and the pixels that they turn.
use Rattle.std.proofs.Common.{◌≡◌, ◌∙◌, ℕ, zero, suc, ◌+◌, ◌-◌, ◌<◌, ◌≤◌, min, Bool, true, false, not, cond, List, length, get_or, take, set, replicate, refl, sym, ap, arith, ⊎_elim}
use Rattle.std.proofs.lemmas.Bool.{cases_lt, lt-leb, le-leb}
use Rattle.std.proofs.lemmas.List.{get_or-take, get_or_default, get_or-replicate, length-take, length-replicate, length-set, same_lists, take_all, take-set-le}
use Rattle.std.proofs.lemmas.List.Sums.{count_by_more_no, sum_by-set}
use Rattle.std.specs.List.{count_by}
use Rattle.std.specs.Prelude.{nat_le}
use lib.IntN.{ℤ}
use Rattle.std.proofs.Math.Seq.{take-set-lt}
use Rattle.geom.specs.EvenOdd.{is_odd}
use Rattle.clip.specs.EdgeClass.{at_least_zero}
use Rattle.clip.proofs.Rowed.{cut-at_most}
use Rattle.scanfill.specs.RowFlips.{AreFlippedFrom, AreWithin, flip_if, is_flipped}
use Rattle.scanfill.specs.Reading.{AllAre}

-- columns that don't flip add nothing to the count
pub count-quiet : (flips : List Bool) (a d : ℕ) → ((k : ℕ) → a ≤ k → k < a + d → get_or flips k false ≡ false) →
    count_by (λ flip. flip) (take (a + d) flips) ≡ count_by (λ flip. flip) (take a flips)
count-quiet flips a zero quiet = ap (λ n. count_by (λ flip. flip) (take n flips)) (omega arith)
count-quiet flips a (suc d) quiet = ⊎_elim
    (λ (lt : a + d < length flips).
    ap (λ n. count_by (λ flip. flip) (take n flips)) (omega arith)
    ∙ (count_by_more_no (λ flip. flip) flips (a + d) false lt (quiet (a + d) (omega arith) (omega arith))
    ∙ count-quiet flips a d (λ k p q. quiet k p (omega arith))))
    (λ (ge : length flips ≤ a + d).
    ap (λ xs. count_by (λ flip. flip) xs) (take_all (a + suc d) flips (omega arith) ∙ sym (take_all (a + d) flips ge))
    ∙ count-quiet flips a d (λ k p q. quiet k p (omega arith)))
    (cases_lt (a + d) (length flips))

-- so the count up to a column says how later pixels are, where no column between flips
pub quiet-parity : (flips : List Bool) (a i : ℕ) → a ≤ i → ((k : ℕ) → a ≤ k → k ≤ i → get_or flips k false ≡ false) →
    is_flipped flips i ≡ is_odd (count_by (λ flip. flip) (take a flips))
quiet-parity flips a i le quiet =
    let same : i + 1 ≡ a + (i + 1 - a) = omega arith in
    rw same (ap is_odd (count-quiet flips a (i + 1 - a) (λ k p q. quiet k p (omega arith))))

-- before the first flip no pixel is turned
pub quiet-start : (flips : List Bool) (first past : ℕ) → AreWithin flips first past →
    (false ≡ is_odd (count_by (λ flip. flip) (take first flips))) × AllAre (is_flipped flips) false 0 first
quiet-start flips first past w = (
  sym (ap is_odd (ap (λ n. count_by (λ flip. flip) (take n flips)) (omega arith) ∙ count-quiet flips 0 first (λ k p q. w.before k (omega arith)))),
  record { each = λ i from last. quiet-parity flips 0 i from (λ k p q. w.before k (omega arith)) },
)

-- after the last flip all pixels are as there
pub quiet-end : (flips : List Bool) (first past at column end : ℕ) (is_inside : Bool) → AreWithin flips first past → past ≤ column →
    is_inside ≡ is_odd (count_by (λ flip. flip) (take column flips)) → AllAre (is_flipped flips) is_inside at column → AllAre (is_flipped flips) is_inside at end
quiet-end flips first past at column end is_inside w late parity same = record {
  each = λ i from last. ⊎_elim
      (λ (lt : i < column). same.each i from lt)
      (λ (ge : column ≤ i). quiet-parity flips column i ge (λ k p q. w.after k (omega arith)) ∙ sym parity)
      (cases_lt i column);
}

-- a list without a flip
pub quiet-list : (flips : List Bool) → ((k : ℕ) → get_or flips k false ≡ false) → flips ≡ replicate (length flips) false
quiet-list flips quiet = same_lists flips (replicate (length flips) false) (sym (length-replicate (length flips) false))
    (λ k d h. get_or_default flips k d false h ∙ (quiet k ∙ sym (get_or-replicate (length flips) k false d h)))

-- flips that are false up to a column and from one before it on are all removed
pub cleared : (old new : List Bool) (column past : ℕ) → length new ≡ length old → past ≤ column → ((k : ℕ) → k < column → get_or new k false ≡ false) →
    ((k : ℕ) → past ≤ k → get_or new k false ≡ false) → new ≡ replicate (length old) false
cleared old new column past width le before after =
    quiet-list new (λ k. ⊎_elim (λ (lt : k < column). before k lt) (λ (ge : column ≤ k). after k (omega arith)) (cases_lt k column))
    ∙ ap (λ n. replicate n false) width

-- one more is odd where the other wasn't
pub odd-next : (n : ℕ) → is_odd (n + 1) ≡ not (is_odd n)
odd-next n = grind arith

odd-flipped : (m n : ℕ) (x : Bool) → m + cond x 1 0 ≡ n + cond (not x) 1 0 → is_odd m ≡ not (is_odd n)
odd-flipped m n true e = let same : n ≡ m + 1 = omega arith in rw same (not-not (is_odd m) (is_odd (m + 1)) (odd-next m))
  where
    not-not : (a b : Bool) → b ≡ not a → a ≡ not b
    not-not true b e = rw e
    not-not false b e = rw e
odd-flipped m n false e = let same : m ≡ n + 1 = omega arith in rw same (odd-next n)

-- a column that turns changes the pixels from it on
pub flipped-at : (flips : List Bool) (at i : ℕ) (x : Bool) → at < length flips → x ≡ get_or flips at x → i < length flips →
    is_flipped (set flips at (not x)) i ≡ flip_if (nat_le at i) (is_flipped flips i)
flipped-at flips at i x bound is column = ⊎_elim
    (λ (lt : i < at). rw (lt-leb at i lt, take-set-le (i + 1) flips at (not x) (omega arith)))
    (λ (ge : at ≤ i).
    let short : at < length (take (i + 1) flips) = omega (arith, length-take (i + 1) flips) in
    let read : get_or (take (i + 1) flips) at x ≡ x = get_or-take (i + 1) flips at x (omega arith) ∙ sym is in
    let sums = sum_by-set (λ (b : Bool). cond b 1 0) (take (i + 1) flips) at (not x) x short in
    rw (le-leb at i ge, take-set-lt (i + 1) flips at (not x) (omega arith))
    (odd-flipped (count_by (λ flip. flip) (set (take (i + 1) flips) at (not x))) (count_by (λ flip. flip) (take (i + 1) flips)) x (rw read at sums)))
    (cases_lt i at)

pub flipped-from : (flips : List Bool) (at : ℕ) (column : ℤ) (x : Bool) → at < length flips → at ≡ min (at_least_zero column) (length flips) → x ≡ get_or flips at x →
    AreFlippedFrom column flips (set flips at (not x))
flipped-from flips at column x bound cut is = record {
  width = length-set flips at (not x);
  all = λ i h. flipped-at flips at i x bound is h ∙ ap (λ b. flip_if b (is_flipped flips i)) (ap (λ n. nat_le n i) cut ∙ cut-at_most column (length flips) i h);
}

-- a column past the end turns none
pub flipped-past : (flips : List Bool) (column : ℤ) → length flips ≡ min (at_least_zero column) (length flips) → AreFlippedFrom column flips flips
flipped-past flips column cut = record {
  width = refl;
  all = λ i h. ap (λ b. flip_if b (is_flipped flips i)) (sym (lt-leb (length flips) i h) ∙ (ap (λ n. nat_le n i) cut ∙ cut-at_most column (length flips) i h));
}
