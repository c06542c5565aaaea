use Rattle.std.proofs.Common.{◌≡◌, [], ◌∷◌, ◌++◌, List, Bool, length, ap, arith, subst, sym}
use Rattle.std.proofs.lemmas.List.{length-append}
use Rattle.strokes.proofs.Gaps.{plain-next}
use Rattle.strokes.specs.Chord.{ArePlain}
use Rattle.strokes.proofs.chords.plain_lengths.Goals as goal

pub loop-length-preserved : goal.loop-length-preserved
loop-length-preserved c =
    let l = c.loop-length in
    let pushed : c.push.new.self.items ≡ l.plain.items ++ c.is_plain.result ∷ [] = c.in_ok-push.ensures.items in
    record {
      count = omega (arith, ap (λ (xs : List Bool). length xs) pushed, length-append l.plain.items (c.is_plain.result ∷ []), l.invariant.count);
      plain = subst (λ (xs : List Bool). ArePlain c.args.width xs) (sym pushed)
          (plain-next c.args.width l.length l.plain.items c.is_plain.result l.invariant.count l.invariant.plain c.is_plain.ensures);
    }
