use Rattle.std.proofs.Common.{◌≡◌, ℕ, None, length}
use Rattle.turns.specs.Owed.{owed_in_all}
use Rattle.turns.specs.Slots.{at_slot}
use Rattle.turns.proofs.slots.Slots.new.Given as goal

abbrev pub invariant-loop : goal.invariant-loop
invariant-loop g l = (length l.items.items ≡ l.counter) × ((slot : ℕ) → at_slot l.items.items slot ≡ None) × (owed_in_all l.items.items ≡ 0)
