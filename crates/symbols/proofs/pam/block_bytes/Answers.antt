use Rattle.std.proofs.Common.{◌≡◌, ◌∙◌, length, ap, sym, arith}
use Rattle.std.proofs.lemmas.List.{length-set}
use Rattle.symbols.specs.Netpbm.{opacity_bytes}
use Rattle.symbols.proofs.Blocks.{four-more}
use Rattle.symbols.proofs.pam.block_bytes.Goals as goal

pub loop-i-preserved : goal.loop-i-preserved
loop-i-preserved c =
    let count : length c.loop-i.bytes ≡ 128 = c.loop-i.invariant.count in
    record {
      count = length-set _ _ _ ∙ (length-set _ _ _ ∙ (length-set _ _ _ ∙ (length-set _ _ _ ∙ count)));
      front = four-more c.args.pixels.now c.loop-i.i c.index-pixels-i.result c.loop-i.bytes c.bytes.result
          (omega (arith, c.type_inv.pixels, c.loop-i-test.true)) (sym c.index-pixels-i.is) (c.bytes.ensures ∙ ap opacity_bytes (sym c.index-pixels-i.is)) (omega (arith, count, c.loop-i-test.true))
          c.loop-i.invariant.front;
    }
