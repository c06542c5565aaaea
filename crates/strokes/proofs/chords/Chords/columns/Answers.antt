use Rattle.std.proofs.Common.{◌≡◌, ◌∙◌, ℕ, ◌<◌, ◌^◌, List, length, get_or, ap, sym, subst, arith}
use Rattle.std.specs.Int.RustNames.{unsigned_abs}
use lib.IntN.{ℤ, pos, ◌-ℤ◌}
use mir.Syntax.{w64}
use mir.Val.{to_z, of_z}
use Rattle.geom.specs.Device.{centre, pixel_centre}
use Rattle.geom.specs.Range.{IsBelow}
use Rattle.scanfill.proofs.Words.{below-more, word}
use Rattle.scanfill.specs.Runs.{has_column}
use Rattle.strokes.specs.Round.{IsRoot, is_round, square, square_of_half}
use Rattle.strokes.proofs.Chording.{no-row-chord, row-chord}
use Rattle.strokes.proofs.Rounded.{below-less, below-sum, chord, fits-less, fits-more, no-chord, no-columns, word-less, word-more}
use Rattle.strokes.proofs.Squares.{square-nonneg}
use Rattle.strokes.proofs.chords.Chords.columns.Goals as goal

down-is : (d c y r : ℤ) → r ≡ c → d ≡ to_z w64 (of_z w64 r) -ℤ to_z w64 (of_z w64 y) → IsBelow (2 ^ 47) r → IsBelow (2 ^ 47) y → d ≡ c -ℤ y
down-is d c y r e f p q = f ∙ rw (word (2 ^ 47) r (omega arith) p, word (2 ^ 47) y (omega arith) q, e)

size-is : (k : ℕ) (d c : ℤ) → k ≡ unsigned_abs (to_z w64 (of_z w64 d)) → IsBelow (2 ^ 48) d → d ≡ c → k ≡ unsigned_abs c
size-is k d c e h f = e ∙ ap unsigned_abs (word (2 ^ 48) d (omega arith) h ∙ f)

pub returns-then-down-halves-clause-all : goal.returns-then-down-halves-clause-all
returns-then-down-halves-clause-all c = λ i less.
    let s = c.self.inside in
    let y = c.args.point.y in
    let d = centre (pos c.args.row) -ℤ y in
    let down : c.difference.result ≡ d = down-is c.difference.result (centre (pos c.args.row)) y c.row_centre.result c.row_centre.ensures.value
    (rw c.y.ensures.value at c.difference.ensures.value) c.row_centre.ensures.range c.y.ensures.limits.down in
    let size = size-is c.unsigned_abs-down.result c.difference.result d c.unsigned_abs-down.ensures.value c.difference.ensures.range down in
    let none = no-row-chord s.width c.unsigned_abs-down.result s.halves.items d c.self.invariant.0 size (omega (arith, c.if-down-halves.true, ap (λ (xs : List ℤ). length xs) c.as_slice-halves.ensures.value)) in
    subst (λ (w : ℕ). has_column (record { from = 0; to = 0 }) i ≡ is_round w c.args.point (pixel_centre (pos i) (pos c.args.row))) c.self.view_is
    (no-columns i ∙ sym (no-chord (square_of_half s.width) (square d) (square (centre (pos i) -ℤ c.args.point.x)) none (square-nonneg (centre (pos i) -ℤ c.args.point.x))))

pub overflow_sub-x : goal.overflow_sub-x
overflow_sub-x c =
    let same = ap (λ (xs : List ℤ). length xs) c.as_slice-halves.ensures.value in
    let below : IsBelow (2 ^ 61) c.half_at-half.result = rw (c.half_at-half.ensures, c.as_slice-halves.ensures.value)
    (c.self.invariant.0.range c.unsigned_abs-down.result (omega (arith, same, c.if-down-halves.false))) in
    let side = below-more (2 ^ 47) (2 ^ 61) c.args.point.x (omega arith) c.x-x.ensures.limits.across in
    rw c.x-x.ensures.value (fits-less c.args.point.x c.half_at-half.result side below)

pub overflow_add-x : goal.overflow_add-x
overflow_add-x c =
    let same = ap (λ (xs : List ℤ). length xs) c.as_slice-halves.ensures.value in
    let below : IsBelow (2 ^ 61) c.half_at-half.result = rw (c.half_at-half.ensures, c.as_slice-halves.ensures.value)
    (c.self.invariant.0.range c.unsigned_abs-down.result (omega (arith, same, c.if-down-halves.false))) in
    let side = below-more (2 ^ 47) (2 ^ 61) c.args.point.x (omega arith) c.x-x.ensures.limits.across in
    rw c.x-x.ensures.value (fits-more c.args.point.x c.half_at-half.result side below)

pub centres_between-requires-clause-least : goal.centres_between-requires-clause-least
centres_between-requires-clause-least c =
    let same = ap (λ (xs : List ℤ). length xs) c.as_slice-halves.ensures.value in
    let below : IsBelow (2 ^ 61) c.half_at-half.result = rw (c.half_at-half.ensures, c.as_slice-halves.ensures.value)
    (c.self.invariant.0.range c.unsigned_abs-down.result (omega (arith, same, c.if-down-halves.false))) in
    let side = below-more (2 ^ 47) (2 ^ 61) c.args.point.x (omega arith) c.x-x.ensures.limits.across in
    rw (c.x-x.ensures.value, word-less c.args.point.x c.half_at-half.result side below) (below-less c.args.point.x c.half_at-half.result side below)

pub centres_between-requires-clause-most : goal.centres_between-requires-clause-most
centres_between-requires-clause-most c =
    let same = ap (λ (xs : List ℤ). length xs) c.as_slice-halves.ensures.value in
    let below : IsBelow (2 ^ 61) c.half_at-half.result = rw (c.half_at-half.ensures, c.as_slice-halves.ensures.value)
    (c.self.invariant.0.range c.unsigned_abs-down.result (omega (arith, same, c.if-down-halves.false))) in
    let side = below-more (2 ^ 47) (2 ^ 61) c.args.point.x (omega arith) c.x-x.ensures.limits.across in
    rw (c.x-x.ensures.value, word-more c.args.point.x c.half_at-half.result side below) (below-sum c.args.point.x c.half_at-half.result side below)

pub returns-clause-all : goal.returns-clause-all
returns-clause-all c = λ i less.
    let s = c.self.inside in
    let x = c.args.point.x in
    let y = c.args.point.y in
    let d = centre (pos c.args.row) -ℤ y in
    let k = c.unsigned_abs-down.result in
    let same = ap (λ (xs : List ℤ). length xs) c.as_slice-halves.ensures.value in
    let bound : k < length s.halves.items = omega (arith, same, c.if-down-halves.false) in
    let half : c.half_at-half.result ≡ get_or s.halves.items k (pos 0) = c.half_at-half.ensures ∙ ap (λ (xs : List ℤ). get_or xs k (pos 0)) c.as_slice-halves.ensures.value in
    let below : IsBelow (2 ^ 61) c.half_at-half.result = rw half (c.self.invariant.0.range k bound) in
    let down : c.difference.result ≡ d = down-is c.difference.result (centre (pos c.args.row)) y c.row_centre.result c.row_centre.ensures.value
    (rw c.y.ensures.value at c.difference.ensures.value) c.row_centre.ensures.range c.y.ensures.limits.down in
    let size = size-is k c.difference.result d c.unsigned_abs-down.ensures.value c.difference.ensures.range down in
    let root : IsRoot (square_of_half s.width -ℤ square d) c.half_at-half.result = rw half (row-chord s.width k s.halves.items d c.self.invariant.0 size bound) in
    let side = below-more (2 ^ 47) (2 ^ 61) x (omega arith) c.x-x.ensures.limits.across in
    let all : has_column c.centres_between.result i ≡ is_round s.width c.args.point (pixel_centre (pos i) (pos c.args.row)) = rw (
      c.x-x.ensures.value,
      word-less x c.half_at-half.result side below,
      word-more x c.half_at-half.result side below,
      chord (square_of_half s.width) (square d) x c.half_at-half.result (centre (pos i)) root,
    ) at (c.centres_between.ensures.all i less) in
    subst (λ (w : ℕ). has_column c.centres_between.result i ≡ is_round w c.args.point (pixel_centre (pos i) (pos c.args.row))) c.self.view_is all
