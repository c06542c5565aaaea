use Rattle.std.proofs.Common.{◌≡◌, min, arith}
use Rattle.std.proofs.lemmas.Int.{ints}
use lib.IntN.{pos, ◌+ℤ◌}
use Rattle.clip.specs.EdgeClass.{at_least_zero}
use Rattle.scanfill.proofs.Clipped.{clipped-from, clipped-to, held}
use Rattle.labelink.proofs.Boxed.{before-at, after-at}
use Rattle.labelink.proofs.placed_glyph.span_on.Goals as goal

pub returns-clause-before : goal.returns-clause-before
returns-clause-before c = λ i h.
    let from : c.clipped.result.from ≡ min (at_least_zero c.args.at) c.args.end =
    clipped-from c.clipped.result (held c.args.at) (held (held c.args.at +ℤ held c.from.result)) c.args.at c.args.end c.clipped.ensures (omega (arith, ints, c.requires)) in
    before-at c.args.at c.args.end i (rw from at h)

pub returns-clause-after : goal.returns-clause-after
returns-clause-after c = λ i h past.
    let to : c.clipped.result.to ≡ min (at_least_zero (c.args.at +ℤ pos c.args.side)) c.args.end =
    clipped-to c.clipped.result (held c.args.at) (held (held c.args.at +ℤ held c.from.result)) (c.args.at +ℤ pos c.args.side) c.args.end c.clipped.ensures (omega (arith, ints, c.from.ensures, c.requires)) in
    after-at (c.args.at +ℤ pos c.args.side) c.args.end i (rw to at h) past
