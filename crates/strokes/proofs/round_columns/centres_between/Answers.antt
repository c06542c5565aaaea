use Rattle.std.proofs.Common.{◌≡◌, ◌∙◌, ◌^◌, min, ap, arith}
use Rattle.std.proofs.lemmas.Int.{ints}
use Rattle.std.specs.Int.{int_div_euclid}
use Rattle.std.specs.Prelude.{nat_le}
use lib.IntN.{ℤ, pos, ◌+ℤ◌, ◌-ℤ◌}
use Rattle.geom.proofs.Quotients.{quotient_parts}
use Rattle.clip.specs.EdgeClass.{at_least_zero}
use Rattle.clip.proofs.Rowed.{cut-at_most}
use Rattle.scanfill.proofs.Clipped.{clipped-from, clipped-to, held}
use Rattle.scanfill.proofs.Words.{word}
use Rattle.strokes.proofs.Keeping.{before}
use Rattle.strokes.proofs.Walking.{from-height, to-height}
use Rattle.strokes.proofs.round_columns.centres_between.Goals as goal

-- a pixel after that of a number less half a pixel is that of half a pixel more
next-sixteenth : (z : ℤ) → int_div_euclid (z +ℤ pos 8) (pos 16) ≡ int_div_euclid (z -ℤ pos 8) (pos 16) +ℤ pos 1
next-sixteenth z =
    let more = quotient_parts (z +ℤ pos 8) (pos 16) (omega (arith, ints)) in
    let less = quotient_parts (z -ℤ pos 8) (pos 16) (omega (arith, ints)) in
    omega (arith, ints, more.0, more.1, less.0, less.1)

pub returns-clause-all : goal.returns-clause-all
returns-clause-all c = λ i h.
    let low = c.args.least in
    let high = c.args.most in
    let first : c.sixteenth.result ≡ int_div_euclid (low +ℤ pos 7) (pos 16) =
    c.sixteenth.ensures.value ∙ ap (λ z. int_div_euclid (z +ℤ pos 7) (pos 16)) (word (2 ^ 62) low (omega arith) c.requires.least) in
    let past : c.sixteenth-2.result ≡ int_div_euclid (high -ℤ pos 8) (pos 16) +ℤ pos 1 =
    c.sixteenth-2.ensures.value ∙ (ap (λ z. int_div_euclid (z +ℤ pos 8) (pos 16)) (word (2 ^ 62) high (omega arith) c.requires.most) ∙ next-sixteenth high) in
    let least : c.clipped.result.from ≡ min (at_least_zero (int_div_euclid (low +ℤ pos 7) (pos 16))) c.args.end =
    clipped-from c.clipped.result (held c.sixteenth.result) (held c.sixteenth-2.result) (int_div_euclid (low +ℤ pos 7) (pos 16)) c.args.end c.clipped.ensures
    (word (2 ^ 62) c.sixteenth.result (omega arith) c.sixteenth.ensures.range ∙ first) in
    let most : c.clipped.result.to ≡ min (at_least_zero (int_div_euclid (high -ℤ pos 8) (pos 16) +ℤ pos 1)) c.args.end =
    clipped-to c.clipped.result (held c.sixteenth.result) (held c.sixteenth-2.result) (int_div_euclid (high -ℤ pos 8) (pos 16) +ℤ pos 1) c.args.end c.clipped.ensures
    (word (2 ^ 62) c.sixteenth-2.result (omega arith) c.sixteenth-2.ensures.range ∙ past) in
    rw (
      ap (λ n. nat_le n i) least ∙ (cut-at_most (int_div_euclid (low +ℤ pos 7) (pos 16)) c.args.end i h ∙ from-height low i),
      before c.clipped.result.to i (int_div_euclid (high -ℤ pos 8) (pos 16)) c.args.end h most ∙ to-height high i,
    )
