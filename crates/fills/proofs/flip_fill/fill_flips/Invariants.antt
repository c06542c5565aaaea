use Rattle.std.proofs.Common.{◌≡◌, length}
use Rattle.fills.proofs.FlipFilling.{IsFilling}
use Rattle.fills.proofs.flip_fill.fill_flips.Given as goal

-- the remaining flips say what is still to be filled
abbrev pub invariant-loop-span : goal.invariant-loop-span
invariant-loop-span l = record {
  sides : l.spans ≡ record l.fn.flips { flips = l.spans.flips };
  filling : IsFilling l.fn.flips.flips l.spans.flips l.colour l.fn.canvas l.canvas;
}

abbrev pub decreases-loop-span : goal.decreases-loop-span
decreases-loop-span l = length l.spans.flips
