use Rattle.std.proofs.Common.{rules, ◌^◌, ◌<◌, arith}
use Rattle.std.proofs.lemmas.Int.{ints}
use Rattle.geom.proofs.Boxes.{moved-down, moved-up}
use Rattle.geom.proofs.pxbox.PxBox.grown.Goals as goal

pub returns : goal.returns
returns c =
    let h = rw (← c.self.view_is) at c.requires in
    let n : c.args.n < 2 ^ 32 = search rules in
    rw (
      ← c.self.view_is,
      moved-down _ _ _ h.left c.from-n.ensures n,
      moved-down _ _ _ h.top c.from-n.ensures n,
      moved-up _ _ _ h.right c.from-n.ensures n,
      moved-up _ _ _ h.bottom c.from-n.ensures n,
    )

pub overflow_sub-result : goal.overflow_sub-result
overflow_sub-result c =
    let h = rw (← c.self.view_is) at c.requires in
    let n : c.args.n < 2 ^ 32 = search rules in
    omega (arith, ints, h.left, c.from-n.ensures, n)

pub overflow_sub-result-2 : goal.overflow_sub-result-2
overflow_sub-result-2 c =
    let h = rw (← c.self.view_is) at c.requires in
    let n : c.args.n < 2 ^ 32 = search rules in
    omega (arith, ints, h.top, c.from-n.ensures, n)

pub overflow_add-result : goal.overflow_add-result
overflow_add-result c =
    let h = rw (← c.self.view_is) at c.requires in
    let n : c.args.n < 2 ^ 32 = search rules in
    omega (arith, ints, h.right, c.from-n.ensures, n)

pub overflow_add-result-2 : goal.overflow_add-result-2
overflow_add-result-2 c =
    let h = rw (← c.self.view_is) at c.requires in
    let n : c.args.n < 2 ^ 32 = search rules in
    omega (arith, ints, h.bottom, c.from-n.ensures, n)
