use Rattle.std.proofs.Common.{refl}
use Rattle.geom.proofs.Areas.{meets-from, meets-down}
use Rattle.geom.proofs.world.WorldBox.meets.Goals as goal

pub returns-then-overlap : goal.returns-then-overlap
returns-then-overlap c =
    let e = c.if-overlap.ensures in
    let e' = c.overlap-then-overlap.ensures in
    rw (← c.self.view_is, ← c.other.view_is) (λ h. meets-from _ _ (e.0 refl) (e'.0 h), λ m. e'.1 (meets-down _ _ m))
