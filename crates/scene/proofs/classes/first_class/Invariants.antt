use Rattle.std.proofs.Common.{◌≡◌, drop}
use Rattle.std.specs.Prelude.{find}
use Rattle.scene.specs.Classes.{admits, class_of}
use Rattle.scene.proofs.classes.first_class.Given as goal

abbrev pub invariant-loop-class : goal.invariant-loop-class
invariant-loop-class l = find (admits l.scale l.layer l.feature) (drop l.class-index l.class-items) ≡ class_of l.scale l.layer l.feature
