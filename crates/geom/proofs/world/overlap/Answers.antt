use Rattle.std.proofs.Common.{rules, arith, w64}
use Rattle.std.proofs.lemmas.Int.{ints, to_z-of_z}
use mir.Val.{SFits}
use Rattle.geom.proofs.Areas.{overlap-from, overlap-to}
use Rattle.geom.proofs.world.overlap.Goals as goal

pub returns : goal.returns
returns c =
    let a : SFits w64 c.millionths.result = search rules in
    let b : SFits w64 c.millionths-2.result = search rules in
    let x : SFits w64 c.millionths-3.result = search rules in
    let y : SFits w64 c.millionths-4.result = search rules in
    let v = simp to_z-of_z at c.max-most.ensures in
    let w = simp to_z-of_z at c.min-least.ensures in
    let p : SFits w64 c.max-most.result = search rules in
    let q : SFits w64 c.min-least.result = search rules in
    simp to_z-of_z (rw (← c.millionths.ensures, ← c.millionths-2.ensures, ← c.millionths-3.ensures, ← c.millionths-4.ensures) (
      λ h. overlap-from _ _ _ _ c.max-most.result c.min-least.result v.self_bound v.other_bound w.self_bound w.other_bound (grind (arith, ints)),
      λ o. let t = overlap-to _ _ _ _ _ _ v.value w.value o in grind (arith, ints),
    ))
