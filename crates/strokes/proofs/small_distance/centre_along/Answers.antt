use Rattle.std.proofs.Common.{◌≡◌, ◌^◌, arith}
use lib.IntN.{pos, ◌-ℤ◌, ◌*ℤ◌}
use Rattle.geom.specs.Device.{DevicePoint, centre}
use Rattle.scanfill.proofs.Words.{word}
use Rattle.strokes.proofs.small_distance.centre_along.Goals as goal

pub returns-clause-value : goal.returns-clause-value
returns-clause-value c =
    let from : DevicePoint = c.args.from in
    let to : DevicePoint = c.args.to in
    let right : c.apart-right.result ≡ centre (pos c.args.column) -ℤ from.x = rw (
      word (2 ^ 47) c.row_centre.result (omega arith) c.row_centre.ensures.range,
      c.row_centre.ensures.value,
      c.x.ensures.value,
      word (2 ^ 47) from.x (omega arith) c.x.ensures.limits.across,
    ) at c.apart-right.ensures.value in
    let below : c.apart-below.result ≡ centre (pos c.args.row) -ℤ from.y = rw (
      word (2 ^ 47) c.row_centre-2.result (omega arith) c.row_centre-2.ensures.range,
      c.row_centre-2.ensures.value,
      c.y.ensures.value,
      word (2 ^ 47) from.y (omega arith) c.y.ensures.limits.down,
    ) at c.apart-below.ensures.value in
    let across : c.apart-across.result ≡ to.x -ℤ from.x = rw (
      c.x-2.ensures.value,
      c.x-3.ensures.value,
      word (2 ^ 47) to.x (omega arith) c.x-2.ensures.limits.across,
      word (2 ^ 47) from.x (omega arith) c.x-3.ensures.limits.across,
    ) at c.apart-across.ensures.value in
    let down : c.apart-down.result ≡ to.y -ℤ from.y = rw (
      c.y-2.ensures.value,
      c.y-3.ensures.value,
      word (2 ^ 47) to.y (omega arith) c.y-2.ensures.limits.down,
      word (2 ^ 47) from.y (omega arith) c.y-3.ensures.limits.down,
    ) at c.apart-down.ensures.value in
    let one : c.product.result ≡ (centre (pos c.args.column) -ℤ from.x) *ℤ (to.x -ℤ from.x) = rw (
      word (2 ^ 25) c.apart-right.result (omega arith) c.apart-right.ensures.range,
      right,
      word (2 ^ 25) c.apart-across.result (omega arith) c.apart-across.ensures.range,
      across,
    ) at c.product.ensures.value in
    let two : c.product-2.result ≡ (centre (pos c.args.row) -ℤ from.y) *ℤ (to.y -ℤ from.y) = rw (
      word (2 ^ 25) c.apart-below.result (omega arith) c.apart-below.ensures.range,
      below,
      word (2 ^ 25) c.apart-down.result (omega arith) c.apart-down.ensures.range,
      down,
    ) at c.product-2.ensures.value in
    rw (
      word (2 ^ 51) c.sum.result (omega arith) c.sum.ensures.range,
      c.sum.ensures.value,
      word (2 ^ 50) c.product.result (omega arith) c.product.ensures.range,
      word (2 ^ 50) c.product-2.result (omega arith) c.product-2.ensures.range,
      one,
      two,
    )
