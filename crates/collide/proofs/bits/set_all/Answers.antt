use Rattle.std.proofs.Common.{rules, ◌∙◌, ◌<◌, length, refl}
use Rattle.std.proofs.lemmas.List.{length-set}
use Rattle.collide.proofs.Bitwise.{set-next}
use Rattle.collide.proofs.bits.set_all.Goals as goal

pub loop-number-preserved : goal.loop-number-preserved
loop-number-preserved c =
    let inv = c.loop-number.invariant in
    let short : c.loop-number.number < length c.loop-number.words = search rules in
    record {
      count = length-set c.loop-number.words c.loop-number.number _ ∙ inv.count;
      bits = set-next c.loop-number.number c.args.from c.args.past c.mask.result _ c.args.words.now c.loop-number.words short refl c.mask.ensures inv.bits;
    }
