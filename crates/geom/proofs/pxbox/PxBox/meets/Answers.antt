use Rattle.std.proofs.Common.{rules, w64, refl}
use Rattle.geom.proofs.Boxes.{meets-from, meets-across, meets-down}
use Rattle.std.proofs.lemmas.Int.{to_z-of_z}
use mir.Val.{SFits}
use Rattle.geom.proofs.pxbox.PxBox.meets.Goals as goal

pub returns-then-overlap : goal.returns-then-overlap
returns-then-overlap c =
    let l : SFits w64 c.self.inside.left = search rules in
    let r : SFits w64 c.self.inside.right = search rules in
    let t : SFits w64 c.self.inside.top = search rules in
    let b : SFits w64 c.self.inside.bottom = search rules in
    let l' : SFits w64 c.other.inside.left = search rules in
    let r' : SFits w64 c.other.inside.right = search rules in
    let t' : SFits w64 c.other.inside.top = search rules in
    let b' : SFits w64 c.other.inside.bottom = search rules in
    let e = simp to_z-of_z at c.if-overlap.ensures in
    let e' = simp to_z-of_z at c.overlap-then-overlap.ensures in
    rw (← c.self.view_is, ← c.other.view_is) (λ h. meets-from _ _ (e.0 refl) (e'.0 h), λ m. e'.1 (meets-down _ _ m))

pub returns-else-overlap : goal.returns-else-overlap
returns-else-overlap c =
    let l : SFits w64 c.self.inside.left = search rules in
    let r : SFits w64 c.self.inside.right = search rules in
    let l' : SFits w64 c.other.inside.left = search rules in
    let r' : SFits w64 c.other.inside.right = search rules in
    let e = simp to_z-of_z at c.overlap.ensures in
    rw (← c.self.view_is, ← c.other.view_is) (λ h. absurd (cc), λ m. e.1 (meets-across _ _ m))
