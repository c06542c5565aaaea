use Rattle.std.proofs.Common.{◌≡◌, ◌++◌, drop}
use Rattle.std.specs.List.{flat_map}
use Rattle.featureinfo.specs.Answer.{hit_lines, answer}
use Rattle.featureinfo.proofs.text_lines.text.Given as goal

-- what was added, and the hits that remain, are all
abbrev pub invariant-loop-found : goal.invariant-loop-found
invariant-loop-found l = l.out.items ++ flat_map (hit_lines l.map) (drop l.found-index l.hits) ≡ answer l.map l.hits
