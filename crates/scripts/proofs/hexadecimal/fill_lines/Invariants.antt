use Rattle.std.proofs.Common.{◌≡◌, ◌+◌, ◌*◌, ◌≤◌, ◌/◌, length, take, ◌++◌}
use Rattle.scripts.specs.Transcript.{hex_lines}
use Rattle.scripts.proofs.hexadecimal.fill_lines.Given as goal

-- the lines so far and those of the rest are all, and the rest has room
abbrev pub invariant-loop-rest : goal.invariant-loop-rest
invariant-loop-rest l = record {
  lines : take l.count l.room ++ hex_lines l.rest ≡ hex_lines l.bytes;
  room : l.count + 65 * ((length l.rest + 31) / 32) ≤ length l.room;
  same : length l.room ≡ length l.fn.room;
}

abbrev pub decreases-loop-rest : goal.decreases-loop-rest
decreases-loop-rest l = length l.rest
