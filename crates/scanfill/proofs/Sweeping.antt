-- A sweep reaches each pixel as often as the edges cross left of it.
use Rattle.std.proofs.Common.{◌≡◌, ◌∙◌, ℕ, ◌+◌, ◌-◌, ◌*◌, ◌^◌, ◌<◌, ◌≤◌, min, take, if◌then◌else◌, Result, Ok, Err, Bool, true, false, cond, List, length, get_or, replicate, refl, sym, ap, arith, ⊎_elim}
use Rattle.std.proofs.lemmas.Bool.{and_from, and_parts, cases_lt, le-leb, lt-ltb, ltb-true}
use Rattle.std.proofs.lemmas.List.{get_or-replicate, get_or_past, length-replicate}
use Rattle.std.proofs.lemmas.List.Sums.{sum_by_more}
use Rattle.std.specs.List.{count_by}
use Rattle.std.specs.Result.{OnOk, is_err}
use Rattle.std.specs.Prelude.{nat_le, nat_lt}
use lib.IntN.{pos}
use Rattle.geom.specs.Device.{pixel_centre}
use Rattle.geom.specs.Edge.{EdgeEnds}
use Rattle.geom.specs.EvenOdd.{is_covered, is_odd}
use Rattle.clip.specs.EdgeClass.{AreRowsOf, crosses_row, has_row}
use Rattle.clip.specs.declared.rows.RowRange.{RowRange}
use Rattle.scanfill.specs.Column.{CrossesRows}
use Rattle.scanfill.specs.Crossing.{reaches}
use Rattle.scanfill.specs.declared.crossing.Crossing.{Crossing}
use Rattle.scanfill.specs.RowFlips.{flip_if, is_flipped}
use Rattle.scanfill.specs.Runs.{AreRunsFrom}
use Rattle.scanfill.specs.Sweep.{ReachesAll}
use Rattle.scanfill.specs.declared.span.Span.{Span}
use Rattle.scanfill.specs.declared.work.Work.{Work}
use Rattle.scanfill.proofs.Flipping.{quiet-parity}
use Rattle.scanfill.proofs.Readings.{runs-same}

-- the rows of an edge are rows of the picture
pub rows-within : (e : EdgeEnds) (h : ℕ) (rows : RowRange) → AreRowsOf e h rows → rows.to ≤ h
rows-within e h rows r =
    let j = rows.to - 1 in
    let has : has_row rows j ≡ true =
    and_from (nat_le rows.from j) (nat_lt j rows.to) (le-leb rows.from j (omega (arith, r.some))) (lt-ltb j rows.to (omega (arith, r.some))) in
    let below = and_parts (nat_lt j h) (crosses_row e j) (sym (r.all j) ∙ has) in
    omega (arith, r.some, ltb-true j h below.0)

-- and each of them is crossed
pub rows-crossed : (e : EdgeEnds) (h : ℕ) (rows : RowRange) → AreRowsOf e h rows → CrossesRows e rows.from rows.to
rows-crossed e h rows r = record {
  each = λ j least below.
      let has : has_row rows j ≡ true = and_from (nat_le rows.from j) (nat_lt j rows.to) (le-leb rows.from j least) (lt-ltb j rows.to below) in
      (and_parts (nat_lt j h) (crosses_row e j) (sym (r.all j) ∙ has)).1;
}

-- where no column flips no pixel is turned
pub quiet-flipped : (n i : ℕ) → is_flipped (replicate n false) i ≡ false
quiet-flipped n i = quiet-parity (replicate n false) 0 i (omega arith) (λ k from last. ⊎_elim
    (λ (lt : k < n). get_or-replicate n k false false lt)
    (λ (ge : n ≤ k). get_or_past (replicate n false) k false (omega (arith, length-replicate n false)))
    (cases_lt k n))

flip-false : (b : Bool) → flip_if b false ≡ b
flip-false true = refl
flip-false false = refl

-- the runs of flips from all crossings are those of the pixels that the polygon covers
pub swept-runs : (polygon : List EdgeEnds) (width height row : ℕ) (list : List Crossing) (old new : List Bool) (spans : List Span) →
    ReachesAll polygon width height row list old → row < height → length new ≡ length old →
    ((i : ℕ) → i < length old → is_flipped new i ≡ flip_if (is_odd (count_by (reaches i row) list)) (is_flipped old i)) →
    AreRunsFrom (is_flipped new) 0 (length new) spans → AreRunsFrom (λ i. is_covered polygon (pixel_centre (pos i) (pos row))) 0 width spans
swept-runs polygon width height row list old new spans r below same all runs =
    let wide : length old ≡ width = ap length r.quiet ∙ length-replicate width false in
    runs-same (is_flipped new) (λ (i : ℕ). is_covered polygon (pixel_centre (pos i) (pos row))) 0 width spans
    (λ i h.
    all i (omega (arith, wide))
    ∙ (ap (flip_if (is_odd (count_by (reaches i row) list))) (ap (λ xs. is_flipped xs i) r.quiet ∙ quiet-flipped width i)
    ∙ (flip-false (is_odd (count_by (reaches i row) list)) ∙ ap is_odd (sym (r.counts i row h (omega arith) below)))))
    (rw (same, wide) at runs)

-- what a call that didn't fail ensures
pub ran : {T E P : Type 0} (r : Result T E) → false ≡ is_err r → OnOk r P → P
ran (Ok x) e h = h
ran (Err x) e h = absurd (cc)

-- one more element in a count
pub count-more : {X : Type 0} (p : X → Bool) (xs : List X) (k : ℕ) (x : X) → k < length xs → x ≡ get_or xs k x →
    count_by p (take (k + 1) xs) ≡ count_by p (take k xs) + cond {A = ℕ} (p x) 1 0
count-more p xs k x h is =
    sum_by_more (λ y. cond {A = ℕ} (p y) 1 0) xs k x h ∙ ap (λ y. count_by p (take k xs) + cond {A = ℕ} (p y) 1 0) (sym is)

-- one more walk in the work
pub work-more : (t : Bool) (before n m : ℕ) (old new : Work) → m ≡ n + cond {A = ℕ} t 1 0 → old ≡ record { divisions = min (before + 2 * n) (2 ^ 64 - 1) } →
    new ≡ (if t then record { divisions = min (old.divisions + 2) (2 ^ 64 - 1) } else old) → new ≡ record { divisions = min (before + 2 * m) (2 ^ 64 - 1) }
work-more true before n m old new e f g =
    rw (g, f, e) (ap (λ (d : ℕ). record { divisions = d }) (omega arith))
work-more false before n m old new e f g = rw (g, f, e) (ap (λ (d : ℕ). record { divisions = d }) (omega arith))
