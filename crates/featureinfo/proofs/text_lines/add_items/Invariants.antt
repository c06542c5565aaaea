use Rattle.std.proofs.Common.{◌≡◌, ◌++◌, drop}
use Rattle.featureinfo.specs.Answer.{item_lines}
use Rattle.featureinfo.proofs.text_lines.add_items.Given as goal

-- what was added, and the items that remain, are all
abbrev pub invariant-loop-index : goal.invariant-loop-index
invariant-loop-index l = l.out.items ++ item_lines (drop l.index l.names) (drop l.index l.values) ≡ l.initial.out.items ++ item_lines l.names l.values
