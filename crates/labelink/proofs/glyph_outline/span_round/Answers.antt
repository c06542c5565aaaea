use Rattle.std.proofs.Common.{◌≡◌, ◌+◌, min, arith}
use Rattle.std.proofs.lemmas.Int.{ints}
use lib.IntN.{pos, ◌+ℤ◌, ◌-ℤ◌}
use Rattle.clip.specs.EdgeClass.{at_least_zero}
use Rattle.scanfill.proofs.Clipped.{clipped-from, clipped-to, held}
use Rattle.labelink.proofs.Boxed.{before-at, after-at}
use Rattle.labelink.proofs.glyph_outline.span_round.Goals as goal

pub returns-clause-before : goal.returns-clause-before
returns-clause-before c = λ i h.
    let from : c.clipped.result.from ≡ min (at_least_zero (c.args.at -ℤ pos 1)) c.args.end =
    clipped-from c.clipped.result (held (held c.args.at -ℤ pos 1)) (held (held (held c.args.at +ℤ held c.from.result) +ℤ pos 1)) (c.args.at -ℤ pos 1) c.args.end c.clipped.ensures (omega (arith, ints, c.requires)) in
    let before = before-at (c.args.at -ℤ pos 1) c.args.end i (rw from at h) in
    omega (arith, ints, before)

pub returns-clause-after : goal.returns-clause-after
returns-clause-after c = λ i h past.
    let to : c.clipped.result.to ≡ min (at_least_zero (c.args.at +ℤ pos (c.args.side + 1))) c.args.end =
    clipped-to c.clipped.result (held (held c.args.at -ℤ pos 1)) (held (held (held c.args.at +ℤ held c.from.result) +ℤ pos 1)) (c.args.at +ℤ pos (c.args.side + 1)) c.args.end c.clipped.ensures (omega (arith, ints, c.from.ensures, c.requires)) in
    after-at (c.args.at +ℤ pos (c.args.side + 1)) c.args.end i (rw to at h) past
