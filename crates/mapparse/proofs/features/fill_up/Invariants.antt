use Rattle.std.proofs.Common.{◌≡◌, ◌-◌, length}
use Rattle.mapparse.specs.Mapping.{padded}
use Rattle.mapparse.proofs.features.fill_up.Given as goal

-- filled up, the values are what they will be
abbrev pub invariant-loop-values : goal.invariant-loop-values
invariant-loop-values l = padded l.count l.values ≡ padded l.count l.fn.values

abbrev pub decreases-loop-values : goal.decreases-loop-values
decreases-loop-values l = l.count - length l.values
