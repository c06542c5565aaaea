use Rattle.std.proofs.Common.{rules, arith, w64}
use Rattle.geom.proofs.Boxes.{overlap-from, overlap-to}
use Rattle.std.proofs.lemmas.Int.{ints, to_z-of_z}
use mir.Val.{SFits}
use Rattle.geom.proofs.pxbox.overlap.Goals as goal

pub returns : goal.returns
returns c =
    let sf = c.ranges.start in
    let ef = c.ranges.end in
    let osf = c.ranges.other_start in
    let oef = c.ranges.other_end in
    let v = simp to_z-of_z at c.max.ensures in
    let w = simp to_z-of_z at c.min.ensures in
    let p : SFits w64 c.max.result = search rules in
    let q : SFits w64 c.min.result = search rules in
    simp to_z-of_z (λ h. overlap-from _ _ _ _ c.max.result c.min.result v.self_bound v.other_bound w.self_bound w.other_bound (grind (arith, ints)), λ o. let t = overlap-to _ _ _ _ _ _ v.value w.value o in grind (arith, ints))
