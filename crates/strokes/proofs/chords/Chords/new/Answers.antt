use Rattle.std.proofs.Common.{◌+◌, ◌^◌, List, length, ap, sym, subst, arith}
use lib.IntN.{ℤ}
use Rattle.scanfill.proofs.Words.{word}
use Rattle.strokes.proofs.Chording.{HasHalves, halves-next}
use Rattle.strokes.proofs.chords.Chords.new.Goals as goal

pub loop-down-init : goal.loop-down-init
loop-down-init c = record {
  count = ap (λ (xs : List ℤ). length xs) c.new-halves.ensures.items;
  all = λ k h. absurd (omega (arith, h));
  range = λ k h. absurd (omega (arith, h));
}

pub loop-down-preserved : goal.loop-down-preserved
loop-down-preserved c =
    let l = c.loop-down in
    let next = halves-next c.args.width l.down l.halves.items c.half_chord.result l.invariant c.half_chord.ensures.root c.half_chord.ensures.range in
    let pushed = rw (word (2 ^ 61) c.half_chord.result (omega arith) c.half_chord.ensures.range) at c.in_ok-push.ensures.items in
    subst (λ (xs : List ℤ). HasHalves c.args.width (l.down + 1) xs) (sym pushed) next
