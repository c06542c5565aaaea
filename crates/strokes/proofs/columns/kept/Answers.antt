use Rattle.std.proofs.Common.{◌≡◌, ◌&&◌, ◌^◌, min, ap, arith}
use Rattle.std.proofs.lemmas.Int.{ints}
use Rattle.std.specs.Int.{int_div_euclid}
use lib.IntN.{pos, neg_ℤ, ◌+ℤ◌}
use lib.Signed.{◌<ℤ◌}
use Rattle.clip.specs.EdgeClass.{at_least_zero}
use Rattle.scanfill.proofs.Words.{wide, word}
use Rattle.strokes.proofs.Keeping.{kept-from, kept-to, next-wide, opposite-wide, opposite-word}
use Rattle.scanfill.specs.Runs.{has_column}
use Rattle.strokes.specs.Columns.{is_kept}
use Rattle.strokes.proofs.columns.kept.Goals as goal

pub returns-then-scale-gt0-clause-all : goal.returns-then-scale-gt0-clause-all
returns-then-scale-gt0-clause-all c =
    let span = c.args.span in
    let k = c.args.scale in
    let m = c.args.offset in
    let held = word (2 ^ 54) k (omega arith) c.requires.scale in
    let some : pos 0 <ℤ k = omega (arith, ints, rw held at c.if-scale-gt0.true) in
    let quotient : c.quotient.result ≡ int_div_euclid m k = rw (wide (2 ^ 100) m (omega arith) c.requires.offset, held) at c.quotient.ensures.value in
    let least : c.clamped-least.result ≡ min (at_least_zero (neg_ℤ (int_div_euclid m k))) span.to =
    rw (← quotient) (rw (opposite-wide c.quotient.result c.quotient.ensures.range) at c.clamped-least.ensures) in
    kept-from span k m c.clamped-least.result c.max.result some least
    (omega (arith, c.max.ensures)) (omega (arith, c.max.ensures)) (λ i p q. omega (arith, c.max.ensures))

pub returns-then-scale-lt0-clause-all : goal.returns-then-scale-lt0-clause-all
returns-then-scale-lt0-clause-all c =
    let span = c.args.span in
    let k = c.args.scale in
    let m = c.args.offset in
    let held = word (2 ^ 54) k (omega arith) c.requires.scale in
    let some : pos 0 <ℤ neg_ℤ k = omega (arith, ints, rw held at c.if-scale-lt0.true) in
    let same : neg_ℤ (neg_ℤ k) ≡ k = omega (arith, ints) in
    let quotient : c.quotient-then-scale-lt0.result ≡ int_div_euclid m (neg_ℤ k) =
    rw (wide (2 ^ 100) m (omega arith) c.requires.offset, opposite-word k c.requires.scale) at c.quotient-then-scale-lt0.ensures.value in
    let past : c.clamped-past.result ≡ min (at_least_zero (int_div_euclid m (neg_ℤ k) +ℤ pos 1)) span.to =
    rw (← quotient) (rw (next-wide c.quotient-then-scale-lt0.result c.quotient-then-scale-lt0.ensures.range) at c.clamped-past.ensures) in
    λ i. rw (kept-to span (neg_ℤ k) m c.clamped-past.result some past i) (ap (λ z. has_column span i && is_kept z m i) same)
