use Rattle.std.proofs.Common.{arith}
use Rattle.smoothing.proofs.Summing.{run-more}
use Rattle.smoothing.proofs.sums.Sums.with_run.Goals as goal

pub loop-pixel-preserved : goal.loop-pixel-preserved
loop-pixel-preserved c =
    let bytes = c.with-sums.ensures.bytes in
    record {
      sums = λ before are. run-more before c.args.run.now c.loop-pixel.pixel-index c.loop-pixel.sums c.with-sums.result c.pixel-item.result c.loop-pixel-test.true c.pixel-item.is
          c.with-sums.ensures.bytes c.with-sums.ensures.outer c.with-sums.ensures.inner (c.loop-pixel.invariant.sums before are);
      few = omega arith;
      fewer = omega arith;
    }
