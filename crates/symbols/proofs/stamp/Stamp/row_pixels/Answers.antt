use Rattle.std.proofs.Common.{◌≡◌, ◌∙◌, ℕ, ◌+◌, ◌-◌, ◌*◌, ◌^◌, ◌<◌, ◌≤◌, None, Some, length, sym, refl, arith}
use Rattle.std.specs.Prelude.{slice_get}
use lib.IntN.{pos}
use Rattle.scanfill.proofs.Words.{word}
use Rattle.symbols.specs.Stamp.{StampValue, position_on, skipped}
use Rattle.symbols.proofs.Stamping.{none-from, part-fits, position-below, seen-part, unseen-columns}
use Rattle.symbols.proofs.stamp.Stamp.row_pixels.Goals as goal

pub part_of-requires : goal.part_of-requires
part_of-requires c =
    let s : StampValue = record { pixmap = c.self.inside.pixmap.now; pixel = c.self.inside.pixel } in
    let held = word (2 ^ 44) s.pixel.i (omega arith) c.i.ensures.limits.column in
    let up : position_on s.pixmap.height s.pixel.j (pos c.args.j) ≡ Some c.in-Some.row =
    rw (c.j.ensures.value, word (2 ^ 44) s.pixel.j (omega arith) c.j.ensures.limits.row, c.get-fields.ensures.value) at (sym c.position_on.ensures ∙ c.in-Some.is) in
    let part = rw (c.i.ensures.value, held, c.get-fields.ensures.value) at (c.span_on-columns.ensures.part (omega (arith, c.if-columns.false))) in
    let left = rw (c.i-2.ensures.value, held, c.get-fields.ensures.value) at c.skipped-left.ensures in
    let row = position-below s.pixmap.height s.pixel.j c.args.j c.in-Some.row up in
    let limits = rw c.get-fields.ensures.value at c.get-fields.ensures.limits.area in
    part-fits c.in-Some.row s.pixmap.width s.pixmap.height (c.from.result * c.from-2.result) c.from-3.result c.from-count.result (length c.as_slice.result.now) row
    (rw (c.from.ensures, c.from-2.ensures, c.get-fields.ensures.value) refl) (omega (arith, part, left, c.from-3.ensures, c.from-count.ensures)) (rw (c.as_slice.ensures, c.get-fields.ensures.value) limits)

pub returns-clause-pixels : goal.returns-clause-pixels
returns-clause-pixels c = λ i below.
    let s : StampValue = record { pixmap = c.self.inside.pixmap.now; pixel = c.self.inside.pixel } in
    let held = word (2 ^ 44) s.pixel.i (omega arith) c.i.ensures.limits.column in
    let before : (i : ℕ) → i < c.span_on-columns.result.from → position_on s.pixmap.width s.pixel.i (pos i) ≡ None = λ i h.
    rw (c.i.ensures.value, held, c.get-fields.ensures.value) at (c.span_on-columns.ensures.before i h) in
    let after : (i : ℕ) → c.span_on-columns.result.to ≤ i → i < c.args.end → position_on s.pixmap.width s.pixel.i (pos i) ≡ None = λ i h past.
    rw (c.i.ensures.value, held, c.get-fields.ensures.value) at (c.span_on-columns.ensures.after i h past) in
    let on : (i : ℕ) → c.span_on-columns.result.from ≤ i → i < c.span_on-columns.result.to → position_on s.pixmap.width s.pixel.i (pos i) ≡ Some (i - c.span_on-columns.result.from + skipped s.pixmap.width s.pixel.i) = λ i h past.
    rw (c.i.ensures.value, held, c.get-fields.ensures.value) at (c.span_on-columns.ensures.on i h past) in
    let up : position_on s.pixmap.height s.pixel.j (pos c.args.j) ≡ Some c.in-Some.row =
    rw (c.j.ensures.value, word (2 ^ 44) s.pixel.j (omega arith) c.j.ensures.limits.row, c.get-fields.ensures.value) at (sym c.position_on.ensures ∙ c.in-Some.is) in
    let part = rw (c.i.ensures.value, held, c.get-fields.ensures.value) at (c.span_on-columns.ensures.part (omega (arith, c.if-columns.false))) in
    let left = rw (c.i-2.ensures.value, held, c.get-fields.ensures.value) at c.skipped-left.ensures in
    let skip : c.from-3.result ≡ skipped s.pixmap.width s.pixel.i = omega (arith, part, left, c.from-3.ensures, c.if-columns.false) in
    let start : c.from.result * c.from-2.result + c.from-3.result ≡ c.in-Some.row * s.pixmap.width + skipped s.pixmap.width s.pixel.i =
    rw (c.from.ensures, c.from-2.ensures, c.get-fields.ensures.value, skip) refl in
    let colours : (k : ℕ) → k < c.span_on-columns.result.to - c.span_on-columns.result.from → slice_get c.part_of.result.now k ≡ slice_get s.pixmap.pixels (c.from.result * c.from-2.result + c.from-3.result + k) = λ k h.
    rw (c.as_slice.ensures, c.get-fields.ensures.value) at (c.part_of.ensures.part k (omega (arith, c.from-count.ensures))) in
    rw (← c.self.view_is)
    (seen-part s i c.args.j c.args.end c.in-Some.row (c.from.result * c.from-2.result + c.from-3.result) c.span_on-columns.result c.part_of.result.now start
    up before after on (c.part_of.ensures.count ∙ c.from-count.ensures) colours (omega (arith, c.if-columns.false)) below)

pub returns-then-columns-clause-pixels : goal.returns-then-columns-clause-pixels
returns-then-columns-clause-pixels c = λ i below.
    let s : StampValue = record { pixmap = c.self.inside.pixmap.now; pixel = c.self.inside.pixel } in
    let before : (i : ℕ) → i < c.span_on-columns.result.from → position_on s.pixmap.width s.pixel.i (pos i) ≡ None = λ i h.
    rw (c.i.ensures.value, word (2 ^ 44) s.pixel.i (omega arith) c.i.ensures.limits.column, c.get-fields.ensures.value) at (c.span_on-columns.ensures.before i h) in
    let after : (i : ℕ) → c.span_on-columns.result.to ≤ i → i < c.args.end → position_on s.pixmap.width s.pixel.i (pos i) ≡ None = λ i h past.
    rw (c.i.ensures.value, word (2 ^ 44) s.pixel.i (omega arith) c.i.ensures.limits.column, c.get-fields.ensures.value) at (c.span_on-columns.ensures.after i h past) in
    rw (c.no_pixels-then-columns.ensures.from, c.no_pixels-then-columns.ensures.colours, none-from i, ← c.self.view_is) (unseen-columns s i c.args.j c.args.end c.span_on-columns.result (omega (arith, c.if-columns.true)) before after below)
