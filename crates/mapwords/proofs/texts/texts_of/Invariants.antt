use Rattle.std.proofs.Common.{◌≡◌, ◌++◌, map, drop}
use Rattle.mapwords.proofs.texts.texts_of.Given as goal

abbrev pub invariant-loop-part : goal.invariant-loop-part
invariant-loop-part l = l.texts.items ++ map (λ x. x.now) (drop l.part-index l.parts) ≡ map (λ x. x.now) l.parts
