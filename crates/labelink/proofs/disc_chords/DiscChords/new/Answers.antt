use Rattle.std.proofs.Common.{◌+◌, length, ap, sym, subst, arith}
use Rattle.labelink.proofs.Chords.{HasHalfChords, half-chords-next}
use Rattle.labelink.proofs.disc_chords.DiscChords.new.Goals as goal

pub loop-down-init : goal.loop-down-init
loop-down-init c = record {
  count = ap length c.new-halves.ensures.items;
  all = λ k h. absurd (omega (arith, h));
}

pub loop-down-preserved : goal.loop-down-preserved
loop-down-preserved c =
    let l = c.loop-down in
    let next = half-chords-next c.args.reach l.down l.halves.items c.half_chord.result l.invariant c.half_chord.ensures in
    subst (λ xs. HasHalfChords c.args.reach (l.down + 1) xs) (sym c.in_ok-push.ensures.items) next
