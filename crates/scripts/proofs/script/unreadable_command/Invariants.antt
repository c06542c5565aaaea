use Rattle.std.proofs.Common.{◌≡◌, ◌+◌, ◌≤◌, length}
use Rattle.scripts.specs.Script.{script_of, fault_of}
use Rattle.scripts.proofs.ScriptSteps.{script_from}
use Rattle.scripts.proofs.script.unreadable_command.Given as goal

-- the first fault from here on is the first of all
abbrev pub invariant-loop-rest : goal.invariant-loop-rest
invariant-loop-rest l = record {
  fault : fault_of (script_from l.number l.rest) ≡ fault_of (script_of l.script);
  count : l.number + length l.rest ≤ 1 + length l.script;
}

abbrev pub decreases-loop-rest : goal.decreases-loop-rest
decreases-loop-rest l = length l.rest
