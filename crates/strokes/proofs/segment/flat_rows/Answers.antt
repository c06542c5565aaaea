use Rattle.std.proofs.Common.{◌≡◌, ◌∙◌, ◌*◌, ◌^◌, sym, ap, arith}
use Rattle.std.proofs.lemmas.Int.{ints}
use Rattle.std.specs.Int.{int_max, int_min}
use lib.IntN.{ℤ, pos, ◌*ℤ◌}
use Rattle.geom.specs.Device.{DevicePoint, centre}
use Rattle.geom.specs.Edge.{high_end, low_end, rise}
use Rattle.geom.specs.Range.{IsBelow}
use mir.Syntax.{w64, w128}
use mir.Val.{to_z, of_z}
use Rattle.scanfill.proofs.Words.{wide, wide-held, word, word-held}
use Rattle.strokes.specs.Segment.{right_of}
use Rattle.strokes.proofs.Reaching.{flat-beside, flat-none, from-both, greater-below, less-below, past-both, to-both}
use Rattle.strokes.proofs.segment.flat_rows.Goals as goal

eight : IsBelow (2 ^ 47) (pos 8)
eight = record { above = omega (arith, ints); below = omega (arith, ints) }

-- what i64 and i128 hold of the greater and the lesser of two numbers
top-below : (from y : ℤ) → from ≡ int_max (to_z w64 (of_z w64 y)) (pos 8) → IsBelow (2 ^ 47) y → IsBelow (2 ^ 47) (to_z w64 (of_z w64 from))
top-below from y e h = word-held (2 ^ 47) from (omega arith) (rw (e, word (2 ^ 47) y (omega arith) h) (greater-below (2 ^ 47) y (pos 8) h eight))

bottom-below : (to y last : ℤ) → to ≡ int_min (to_z w64 (of_z w64 y)) (to_z w64 (of_z w64 last)) →
    IsBelow (2 ^ 47) y → IsBelow (2 ^ 47) last → IsBelow (2 ^ 47) (to_z w64 (of_z w64 to))
bottom-below to y last e h k =
    word-held (2 ^ 47) to (omega arith) (rw (e, word (2 ^ 47) y (omega arith) h, word (2 ^ 47) last (omega arith) k) (less-below (2 ^ 47) y last h k))

lesser-below : (r a b : ℤ) → r ≡ int_min (to_z w128 (of_z w128 a)) (to_z w128 (of_z w128 b)) →
    IsBelow (2 ^ 97) a → IsBelow (2 ^ 97) b → IsBelow (2 ^ 97) (to_z w128 (of_z w128 r))
lesser-below r a b e h k =
    wide-held (2 ^ 97) r (omega arith) (rw (e, wide (2 ^ 97) a (omega arith) h, wide (2 ^ 97) b (omega arith) k) (less-below (2 ^ 97) a b h k))

greatest-below : (r a b : ℤ) → r ≡ int_max (to_z w128 (of_z w128 a)) (to_z w128 (of_z w128 b)) →
    IsBelow (2 ^ 97) a → IsBelow (2 ^ 97) b → IsBelow (2 ^ 97) (to_z w128 (of_z w128 r))
greatest-below r a b e h k =
    wide-held (2 ^ 97) r (omega arith) (rw (e, wide (2 ^ 97) a (omega arith) h, wide (2 ^ 97) b (omega arith) k) (greater-below (2 ^ 97) a b h k))

pub new-requires-clause-down : goal.new-requires-clause-down
new-requires-clause-down c = top-below c.max-from.result c.y.result c.max-from.ensures.value (rw c.y.ensures.value c.y.ensures.limits.down)

pub new-requires-2-clause-down : goal.new-requires-2-clause-down
new-requires-2-clause-down c =
    bottom-below c.min-to.result c.y-2.result c.row_centre.result c.min-to.ensures.value (rw c.y-2.ensures.value c.y-2.ensures.limits.down) c.row_centre.ensures.range

pub step-requires : goal.step-requires
step-requires c = word-held (2 ^ 48) c.rise.result (omega arith) c.rise.ensures.range

pub reach-requires-clause-rise : goal.reach-requires-clause-rise
reach-requires-clause-rise c = word-held (2 ^ 48) c.rise-2.result (omega arith) c.rise-2.ensures.range

pub near_columns-requires-clause-least : goal.near_columns-requires-clause-least
near_columns-requires-clause-least c =
    lesser-below c.min.result c.right_of-one.result c.right_of-other.result c.min.ensures.value c.right_of-one.ensures.range c.right_of-other.ensures.range

pub near_columns-requires-clause-most : goal.near_columns-requires-clause-most
near_columns-requires-clause-most c =
    greatest-below c.max.result c.right_of-one.result c.right_of-other.result c.max.ensures.value c.right_of-one.ensures.range c.right_of-other.ensures.range

pub near_columns-requires-clause-step : goal.near_columns-requires-clause-step
near_columns-requires-clause-step c = word-held (2 ^ 52) c.step.result (omega arith) c.step.ensures.range

pub near_columns-requires-clause-reach : goal.near_columns-requires-clause-reach
near_columns-requires-clause-reach c = word-held (2 ^ 59) c.reach.result (omega arith) c.reach.ensures.range

pub returns-then-from-to-clause-none : goal.returns-then-from-to-clause-none
returns-then-from-to-clause-none c = λ i j column row out.
    let e = c.args.edge in
    let last = centre (pos c.args.last) in
    let low : c.y.result ≡ (low_end e).y = c.y.ensures.value ∙ ap (λ (p : DevicePoint). p.y) c.low_end.ensures in
    let high : c.y-2.result ≡ (high_end e).y = c.y-2.ensures.value ∙ ap (λ (p : DevicePoint). p.y) c.high_end.ensures in
    let lowest : IsBelow (2 ^ 47) c.y.result = rw c.y.ensures.value c.y.ensures.limits.down in
    let highest : IsBelow (2 ^ 47) c.y-2.result = rw c.y-2.ensures.value c.y-2.ensures.limits.down in
    let from : c.max-from.result ≡ int_max (low_end e).y (pos 8) = rw (word (2 ^ 47) c.y.result (omega arith) lowest, low) at c.max-from.ensures.value in
    let to : c.min-to.result ≡ int_min (high_end e).y last =
    rw (word (2 ^ 47) c.y-2.result (omega arith) highest, high, word (2 ^ 47) c.row_centre.result (omega arith) c.row_centre.ensures.range, c.row_centre.ensures.value) at c.min-to.ensures.value in
    let least : IsBelow (2 ^ 47) c.max-from.result = rw from (greater-below (2 ^ 47) (low_end e).y (pos 8) (rw low at lowest) eight) in
    let most : IsBelow (2 ^ 47) c.min-to.result = rw to (less-below (2 ^ 47) (high_end e).y last (rw high at highest) (rw c.row_centre.ensures.value at c.row_centre.ensures.range)) in
    let none = rw (word (2 ^ 47) c.min-to.result (omega arith) most, word (2 ^ 47) c.max-from.result (omega arith) least, from, to) at c.if-from-to.true in
    flat-beside c.args.width e i j (λ after. past-both (low_end e).y (high_end e).y last (centre (pos i)) none after (omega (arith, ints)) (omega (arith, ints)))

pub returns-clause-none : goal.returns-clause-none
returns-clause-none c = λ i j column row out.
    let e = c.args.edge in
    let last = centre (pos c.args.last) in
    let low : c.y.result ≡ (low_end e).y = c.y.ensures.value ∙ ap (λ (p : DevicePoint). p.y) c.low_end.ensures in
    let high : c.y-2.result ≡ (high_end e).y = c.y-2.ensures.value ∙ ap (λ (p : DevicePoint). p.y) c.high_end.ensures in
    let lowest : IsBelow (2 ^ 47) c.y.result = rw c.y.ensures.value c.y.ensures.limits.down in
    let highest : IsBelow (2 ^ 47) c.y-2.result = rw c.y-2.ensures.value c.y-2.ensures.limits.down in
    let from : c.max-from.result ≡ int_max (low_end e).y (pos 8) = rw (word (2 ^ 47) c.y.result (omega arith) lowest, low) at c.max-from.ensures.value in
    let to : c.min-to.result ≡ int_min (high_end e).y last =
    rw (word (2 ^ 47) c.y-2.result (omega arith) highest, high, word (2 ^ 47) c.row_centre.result (omega arith) c.row_centre.ensures.range, c.row_centre.ensures.value) at c.min-to.ensures.value in
    let least : IsBelow (2 ^ 47) c.max-from.result = rw from (greater-below (2 ^ 47) (low_end e).y (pos 8) (rw low at lowest) eight) in
    let most : IsBelow (2 ^ 47) c.min-to.result = rw to (less-below (2 ^ 47) (high_end e).y last (rw high at highest) (rw c.row_centre.ensures.value at c.row_centre.ensures.range)) in
    let one : c.right_of-one.result ≡ right_of e (record { x = centre (pos 0); y = c.max-from.result }) =
    rw (c.new.ensures, word (2 ^ 47) c.max-from.result (omega arith) least) at c.right_of-one.ensures.value in
    let other : c.right_of-other.result ≡ right_of e (record { x = centre (pos 0); y = c.min-to.result }) =
    rw (c.new-2.ensures, word (2 ^ 47) c.min-to.result (omega arith) most) at c.right_of-other.ensures.value in
    let held = wide (2 ^ 97) c.right_of-one.result (omega arith) c.right_of-one.ensures.range in
    let held_other = wide (2 ^ 97) c.right_of-other.result (omega arith) c.right_of-other.ensures.range in
    let nearest : IsBelow (2 ^ 97) c.min.result =
    rw (c.min.ensures.value, held, held_other) (less-below (2 ^ 97) c.right_of-one.result c.right_of-other.result c.right_of-one.ensures.range c.right_of-other.ensures.range) in
    let furthest : IsBelow (2 ^ 97) c.max.result =
    rw (c.max.ensures.value, held, held_other) (greater-below (2 ^ 97) c.right_of-one.result c.right_of-other.result c.right_of-one.ensures.range c.right_of-other.ensures.range) in
    let step : c.step.result ≡ pos 16 *ℤ rise e = rw (word (2 ^ 48) c.rise.result (omega arith) c.rise.ensures.range, c.rise.ensures.value) at c.step.ensures.value in
    let reach : c.reach.result ≡ pos (16 * c.args.width) *ℤ rise e =
    rw (word (2 ^ 48) c.rise-2.result (omega arith) c.rise-2.ensures.range, c.rise-2.ensures.value) at c.reach.ensures.value in
    let all = rw (
      word (2 ^ 52) c.step.result (omega arith) c.step.ensures.range,
      word (2 ^ 59) c.reach.result (omega arith) c.reach.ensures.range,
      wide (2 ^ 97) c.min.result (omega arith) nearest,
      wide (2 ^ 97) c.max.result (omega arith) furthest,
      step,
      reach,
      row,
    ) at (c.near_columns.ensures.all j) in
    flat-none c.args.width e i j c.max-from.result c.min-to.result c.min.result c.max.result
    (λ after. rw from (from-both (low_end e).y (centre (pos i)) after (omega (arith, ints))))
    (λ before. rw to (to-both (high_end e).y last (centre (pos i)) before (omega (arith, ints))))
    (rw (held, one) at c.min.ensures.self_bound)
    (rw (held_other, other) at c.min.ensures.other_bound)
    (rw (held, one) at c.max.ensures.self_bound)
    (rw (held_other, other) at c.max.ensures.other_bound)
    (sym all ∙ out)
