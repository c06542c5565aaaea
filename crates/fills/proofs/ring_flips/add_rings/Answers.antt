use Rattle.std.proofs.Common.{refl, rules}
use Rattle.fills.proofs.Flipping.{ring-next, stand-none}
use Rattle.fills.proofs.ring_flips.add_rings.Goals as goal

pub loop-ring-init : goal.loop-ring-init
loop-ring-init c = record { sides = refl; stand = stand-none c.args.rows.now c.args.flips.now.flips c.requires.none }

pub loop-ring-preserved : goal.loop-ring-preserved
loop-ring-preserved c =
    let l = c.loop-ring in
    let adds = c.in_ok-add_ring.ensures.adds in
    record {
      sides = search (rules, c.in_ok-add_ring.ensures.sides, l.invariant.sides);
      stand = ring-next c.args.rows.now c.args.rings.now l.ring-index c.ring-item.result l.flips.flips c.add_ring.new.flips.flips c.loop-ring-test.true c.ring-item.is
          l.invariant.stand adds;
    }
