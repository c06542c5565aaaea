use Rattle.std.proofs.Common.{◌≡◌, ◌++◌, ◌≤◌, length, take, arith, length-append, length-take-le}
use Rattle.std.proofs.lemmas.Grind.{common_steps}
use Rattle.std.proofs.lemmas.List.{take-append-le}
use Rattle.std.proofs.KnownBytes.{Consumes-trans}
use Rattle.administration.proofs.Commands.{held-on}
use Rattle.administration.proofs.reading.read_batch.Goals as goal

pub loop-left-preserved : goal.loop-left-preserved
loop-left-preserved g c =
    let before = c.loop-left.invariant in
    let piece = take c.in-Ok.got c.take.new.room in
    let long : length piece ≡ c.in-Ok.got = length-take-le c.in-Ok.got c.take.new.room (omega (arith, c.in-Ok.ensures.count)) in
    let hold = rw (take-append-le c.in-Ok.got c.take.new.room _ c.in-Ok.ensures.count) at c.hold-held.ensures in
    let fits : c.in-Ok.got ≤ c.loop-left.left = grind (arith, common_steps) in
    record {
      bytes = before.bytes ++ piece;
      came = Consumes-trans _ _ _ before.bytes piece before.came c.in-Ok.ensures.bytes.0;
      count = omega (arith, before.count, length-append before.bytes piece, long, fits);
      held = held-on c.loop-left.held c.hold-held.result before.bytes piece hold before.held;
    }
