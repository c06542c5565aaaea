use Rattle.std.proofs.Common.{◌≡◌, ◌++◌, drop}
use Rattle.std.specs.List.{flat_map}
use Rattle.featureinfo.specs.Answer.{lines_at}
use Rattle.featureinfo.proofs.text_lines.add_features.Given as goal

-- what was added, and the features that remain, are all
abbrev pub invariant-loop-index : goal.invariant-loop-index
invariant-loop-index l = l.out.items ++ flat_map (lines_at l.layer) (drop l.index-index l.indices) ≡ l.initial.out.items ++ flat_map (lines_at l.layer) l.indices
