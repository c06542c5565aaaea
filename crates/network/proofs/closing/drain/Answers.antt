use Rattle.std.proofs.Common.{◌≡◌, ◌≤◌, ◌++◌, length, take, arith, length-append, length-take-le}
use Rattle.std.proofs.lemmas.Grind.{common_steps}
use Rattle.std.proofs.KnownBytes.{Consumes-trans}
use Rattle.network.proofs.closing.drain.Goals as goal

pub loop-left-preserved : goal.loop-left-preserved
loop-left-preserved g c =
    let before = c.loop-left.invariant in
    let piece = take c.in-Ok.count c.take.new.room in
    let long : length piece ≡ c.in-Ok.count = length-take-le c.in-Ok.count c.take.new.room (omega (arith, c.in-Ok.ensures.count)) in
    let fits : c.in-Ok.count ≤ c.loop-left.left = grind (arith, common_steps) in
    record {
      bytes = before.bytes ++ piece;
      consumed = Consumes-trans _ _ _ before.bytes piece before.consumed c.in-Ok.ensures.bytes.0;
      count = omega (arith, before.count, length-append before.bytes piece, long, fits);
    }
