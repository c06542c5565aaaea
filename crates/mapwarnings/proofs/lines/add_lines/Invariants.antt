use Rattle.std.proofs.Common.{◌≡◌, ◌++◌, drop}
use Rattle.std.specs.List.{flat_map}
use Rattle.mapwarnings.specs.Lines.{warning_line}
use Rattle.mapwarnings.proofs.lines.add_lines.Given as goal

abbrev pub invariant-loop-warning : goal.invariant-loop-warning
invariant-loop-warning l = l.out.items ++ flat_map (warning_line l.name) (drop l.warning-index l.warnings) ≡ l.initial.out.items ++ flat_map (warning_line l.name) l.warnings
