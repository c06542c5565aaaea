use Rattle.std.proofs.Common.{◌≡◌, ◌++◌, map, drop}
use Rattle.mapparse.proofs.features.copies_of.Given as goal

abbrev pub invariant-loop-part : goal.invariant-loop-part
invariant-loop-part l = l.copies ++ map (λ x. x.now) (drop l.part-index l.parts) ≡ map (λ x. x.now) l.parts
