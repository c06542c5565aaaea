use Rattle.std.proofs.Common.{rules, w64, refl}
use Rattle.std.proofs.lemmas.Int.{to_z-of_z}
use mir.Val.{SFits}
use Rattle.geom.proofs.pxbox.PxBox.inside.Goals as goal

pub returns-then-is_within : goal.returns-then-is_within
returns-then-is_within c =
    let l : SFits w64 c.self.inside.left = search rules in
    let r : SFits w64 c.self.inside.right = search rules in
    let t : SFits w64 c.self.inside.top = search rules in
    let b : SFits w64 c.self.inside.bottom = search rules in
    let e = simp to_z-of_z at c.if-is_within.ensures in
    let e' = simp to_z-of_z at c.is_within-then-is_within.ensures in
    rw (← c.self.view_is) (λ h. record { left = (e.0 refl).0; right = (e.0 refl).1; top = (e'.0 h).0; bottom = (e'.0 h).1 }, λ i. e'.1 (i.top, i.bottom))
