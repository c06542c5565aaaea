use Rattle.std.proofs.Common.{◌≡◌, ◌/◌, min, arith}
use Rattle.std.proofs.lemmas.Int.{ints}
use lib.IntN.{pos, ◌+ℤ◌, ◌-ℤ◌}
use Rattle.clip.specs.EdgeClass.{at_least_zero}
use Rattle.scanfill.proofs.Clipped.{clipped-from, clipped-to, held}
use Rattle.symbols.proofs.Stamping.{after-side, before-side, on-side, side-part}
use Rattle.symbols.proofs.stamp.span_on.Goals as goal

pub returns-clause-before : goal.returns-clause-before
returns-clause-before c = λ i h.
    let from : c.clipped.result.from ≡ min (at_least_zero (c.args.at -ℤ pos (c.args.side / 2))) c.args.end =
    clipped-from c.clipped.result (held (held c.args.at -ℤ held c.from.result)) (held (held (held c.args.at -ℤ held c.from.result) +ℤ held c.from-2.result)) (c.args.at -ℤ pos (c.args.side / 2)) c.args.end c.clipped.ensures (omega (arith, ints, c.from.ensures, c.requires)) in
    before-side c.args.side c.args.at c.args.end i (rw from at h)

pub returns-clause-after : goal.returns-clause-after
returns-clause-after c = λ i h past.
    let to : c.clipped.result.to ≡ min (at_least_zero (c.args.at -ℤ pos (c.args.side / 2) +ℤ pos c.args.side)) c.args.end =
    clipped-to c.clipped.result (held (held c.args.at -ℤ held c.from.result)) (held (held (held c.args.at -ℤ held c.from.result) +ℤ held c.from-2.result)) (c.args.at -ℤ pos (c.args.side / 2) +ℤ pos c.args.side) c.args.end c.clipped.ensures (omega (arith, ints, c.from.ensures, c.from-2.ensures, c.requires)) in
    after-side c.args.side c.args.at c.args.end i past (rw to at h)

pub returns-clause-on : goal.returns-clause-on
returns-clause-on c = λ i low high.
    let from : c.clipped.result.from ≡ min (at_least_zero (c.args.at -ℤ pos (c.args.side / 2))) c.args.end =
    clipped-from c.clipped.result (held (held c.args.at -ℤ held c.from.result)) (held (held (held c.args.at -ℤ held c.from.result) +ℤ held c.from-2.result)) (c.args.at -ℤ pos (c.args.side / 2)) c.args.end c.clipped.ensures (omega (arith, ints, c.from.ensures, c.requires)) in
    let to : c.clipped.result.to ≡ min (at_least_zero (c.args.at -ℤ pos (c.args.side / 2) +ℤ pos c.args.side)) c.args.end =
    clipped-to c.clipped.result (held (held c.args.at -ℤ held c.from.result)) (held (held (held c.args.at -ℤ held c.from.result) +ℤ held c.from-2.result)) (c.args.at -ℤ pos (c.args.side / 2) +ℤ pos c.args.side) c.args.end c.clipped.ensures (omega (arith, ints, c.from.ensures, c.from-2.ensures, c.requires)) in
    rw from (on-side c.args.side c.args.at c.args.end i (rw from at low) (rw to at high))

pub returns-clause-part : goal.returns-clause-part
returns-clause-part c = λ some.
    let from : c.clipped.result.from ≡ min (at_least_zero (c.args.at -ℤ pos (c.args.side / 2))) c.args.end =
    clipped-from c.clipped.result (held (held c.args.at -ℤ held c.from.result)) (held (held (held c.args.at -ℤ held c.from.result) +ℤ held c.from-2.result)) (c.args.at -ℤ pos (c.args.side / 2)) c.args.end c.clipped.ensures (omega (arith, ints, c.from.ensures, c.requires)) in
    let to : c.clipped.result.to ≡ min (at_least_zero (c.args.at -ℤ pos (c.args.side / 2) +ℤ pos c.args.side)) c.args.end =
    clipped-to c.clipped.result (held (held c.args.at -ℤ held c.from.result)) (held (held (held c.args.at -ℤ held c.from.result) +ℤ held c.from-2.result)) (c.args.at -ℤ pos (c.args.side / 2) +ℤ pos c.args.side) c.args.end c.clipped.ensures (omega (arith, ints, c.from.ensures, c.from-2.ensures, c.requires)) in
    rw (from, to) (side-part c.args.side c.args.at c.args.end (rw (from, to) at some))

pub overflow_sub-first : goal.overflow_sub-first
overflow_sub-first c = omega (arith, ints, c.from.ensures, c.requires)

pub overflow_add-first : goal.overflow_add-first
overflow_add-first c = omega (arith, ints, c.from-2.ensures, c.from.ensures, c.requires)
