use Rattle.std.proofs.Common.{◌≡◌, ◌*◌, mul-zero}
use Rattle.smoothing.specs.Fine.{pixel_at, pixels_in, smoothed}
use Rattle.smoothing.specs.Mean.{mean_of}
use Rattle.smoothing.proofs.Blocks.{block-length, few-pixels}
use Rattle.smoothing.proofs.Sharing.{are-shares}
use Rattle.smoothing.proofs.row.pixel.Goals as goal

pub mean-requires-clause-shares : goal.mean-requires-clause-shares
mean-requires-clause-shares g c =
    let n = g.row.N in
    let fine = pixel_at c.args.fine.now c.args.width in
    are-shares (pixels_in fine (n * c.args.column) n 0 n) c.block_sums.result (n * n) (few-pixels n c.requires.factor) (block-length fine (n * c.args.column) n 0 n) c.block_sums.ensures

pub returns : goal.returns
unfolding smoothed
returns g c =
    let n = g.row.N in
    let fine = pixel_at c.args.fine.now c.args.width in
    let mean : c.mean.result ≡ mean_of (pixels_in fine (n * c.args.column) n 0 n) =
    c.mean.ensures (pixels_in fine (n * c.args.column) n 0 n) (block-length fine (n * c.args.column) n 0 n) c.block_sums.ensures in
    rw (mul-zero n) mean
