use Rattle.std.proofs.Common.{◌≡◌, ◌-◌}
use Rattle.maplex.specs.ByteFault.{byte_fault, byte_fault_within}
use Rattle.maplex.proofs.bad_byte.byte_fault.Given as goal

abbrev pub invariant-loop-step : goal.invariant-loop-step
invariant-loop-step l = byte_fault_within (l._step-end - l._step) l.at ≡ byte_fault l.fn.source
