use Rattle.std.proofs.lemmas.Result.{on_ok_weaker}
use Rattle.symbols.specs.Netpbm.{opacity_bytes}
use Rattle.symbols.proofs.Blocks.{added}
use Rattle.symbols.proofs.pam.add_pixels.Goals as goal

pub returns : goal.returns
returns c = on_ok_weaker c.add_rest.result
    (λ last. added opacity_bytes c.args.pixels.now c.args.bytes.now.items _ _ _ _ c.as_chunks.ensures.front c.as_chunks.ensures.back
    (rw c.in_ok-reserve.ensures.items at c.in_ok-add_blocks.ensures) last)
    c.add_rest.ensures
