use Rattle.std.proofs.Common.{◌≡◌, ◌<◌, ◌≤◌, ◌+◌, ◌*◌, [], ◌∷◌, length, arith}
use Rattle.std.proofs.lemmas.List.{length-append}
use Rattle.gridindex.proofs.Covering.{covers-more, part-is, part-length}
use Rattle.gridindex.proofs.level.Level.of.Goals as goal

pub loop-from-preserved : goal.loop-from-preserved
loop-from-preserved c =
    let inv = c.loop-from.invariant in
    let from = c.loop-from.from in
    let end = c.min-end.result in
    let order = c.args.order.now in
    let at : from ≡ length c.loop-from.covers.items * c.args.size = inv.whole c.loop-from-test.true in
    let step : end ≤ from + c.args.size = omega (arith, c.min-end.ensures, c.saturating_add.ensures) in
    let bound : end ≤ length order = omega (arith, c.min-end.ensures) in
    rw c.in_ok-push.ensures.items (record {
      covers = covers-more c.args.boxes.now order from end c.args.size c.loop-from.covers.items c.cover_of.result c.requires at step
          (λ i area h is. c.cover_of.ensures i area (part-length order from end i bound h) (rw (part-is order from end i h) is))
          inv.covers;
      whole = λ (more : end < length order).
          let e : end ≡ from + c.args.size = omega (arith, c.min-end.ensures, c.saturating_add.ensures, c.ranges.size.fits) in
          let l = length-append c.loop-from.covers.items (c.cover_of.result ∷ []) in
          rw (l, e, at) (omega arith);
      bound = bound;
    })

pub returns : goal.returns
returns c = record { size = c.requires; covers = λ i cover area h. c.loop-from.invariant.covers i cover area (omega (arith, h, c.loop-from-test.false)) }
