use Rattle.std.proofs.Common.{◌≡◌, ℕ, ◌+◌, ◌*◌, ◌<◌, ◌≤◌, length}
use Rattle.expressions.specs.Reading.{part_of, joined_at, part_at}
use Rattle.expressions.proofs.Parts.{rank, goes_on}
use Rattle.expressions.proofs.logic.+logic.Given as goal

abbrev pub decreases-part_at : goal.decreases-part_at
decreases-part_at l = 5 * l.room

abbrev pub decreases-part_of : goal.decreases-part_of
decreases-part_of l = 5 * l.room + rank l.joint + 1

abbrev pub decreases-joined_at : goal.decreases-joined_at
decreases-joined_at l = 5 * l.room + rank l.joint + 2

abbrev pub decreases-joined_at-loop-parts : goal.decreases-joined_at-loop-parts
decreases-joined_at-loop-parts l = length l.next

abbrev pub invariant-joined_at-loop-parts : goal.invariant-joined_at-loop-parts
invariant-joined_at-loop-parts l =
    (n : ℕ) × (length l.next ≤ n) × (1 ≤ length l.parts) × (length l.next < length l.text)
    × (joined_at l.joint (part_at l.room) l.text ≡ goes_on l.joint (part_of l.joint (part_at l.room)) l.parts n l.next)
