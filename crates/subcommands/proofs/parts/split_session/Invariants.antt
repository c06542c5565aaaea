use Rattle.std.proofs.Common.{◌≡◌, ◌+◌, ◌-◌, ◌≤◌, true, length, drop}
use Rattle.subcommands.proofs.Parting.{parting_at}
use Rattle.subcommands.proofs.parts.split_session.Given as goal

-- the first line of two percent signs from here on is the first of all
abbrev pub invariant-loop-at : goal.invariant-loop-at
invariant-loop-at l = record {
  first : l.at + parting_at true (drop l.at l.session) ≡ parting_at true l.session;
  within : l.at ≤ length l.session;
}

abbrev pub decreases-loop-at : goal.decreases-loop-at
decreases-loop-at l = length l.session - l.at
