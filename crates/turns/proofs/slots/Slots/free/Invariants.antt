use Rattle.std.proofs.Common.{◌≡◌, ◌<◌, ℕ, is_some, true}
use Rattle.turns.specs.Slots.{at_slot}
use Rattle.turns.proofs.slots.Slots.free.Given as goal

abbrev pub invariant-loop-slot : goal.invariant-loop-slot
invariant-loop-slot g l = (other : ℕ) → other < l.slot → is_some (at_slot l.self.items.items other) ≡ true
