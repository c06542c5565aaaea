use Rattle.std.proofs.Common.{◌≡◌, ◌^◌, arith}
use lib.IntN.{◌-ℤ◌, ◌*ℤ◌}
use Rattle.geom.specs.Device.{DevicePoint}
use Rattle.scanfill.proofs.Words.{word}
use Rattle.strokes.proofs.small_distance.square_length.Goals as goal

pub returns-clause-value : goal.returns-clause-value
returns-clause-value c =
    let from : DevicePoint = c.args.from in
    let to : DevicePoint = c.args.to in
    let across : c.apart-across.result ≡ to.x -ℤ from.x = rw (
      c.x.ensures.value,
      c.x-2.ensures.value,
      word (2 ^ 47) to.x (omega arith) c.x.ensures.limits.across,
      word (2 ^ 47) from.x (omega arith) c.x-2.ensures.limits.across,
    ) at c.apart-across.ensures.value in
    let down : c.apart-down.result ≡ to.y -ℤ from.y = rw (
      c.y.ensures.value,
      c.y-2.ensures.value,
      word (2 ^ 47) to.y (omega arith) c.y.ensures.limits.down,
      word (2 ^ 47) from.y (omega arith) c.y-2.ensures.limits.down,
    ) at c.apart-down.ensures.value in
    let one : c.product.result ≡ (to.x -ℤ from.x) *ℤ (to.x -ℤ from.x) = rw (word (2 ^ 25) c.apart-across.result (omega arith) c.apart-across.ensures.range, across) at c.product.ensures.value in
    let two : c.product-2.result ≡ (to.y -ℤ from.y) *ℤ (to.y -ℤ from.y) = rw (word (2 ^ 25) c.apart-down.result (omega arith) c.apart-down.ensures.range, down) at c.product-2.ensures.value in
    rw (
      word (2 ^ 51) c.sum.result (omega arith) c.sum.ensures.range,
      c.sum.ensures.value,
      word (2 ^ 50) c.product.result (omega arith) c.product.ensures.range,
      word (2 ^ 50) c.product-2.result (omega arith) c.product-2.ensures.range,
      one,
      two,
    )
