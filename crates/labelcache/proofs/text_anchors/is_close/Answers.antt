use Rattle.std.proofs.Common.{◌≡◌, arith, to_z, of_z, w64}
use Rattle.std.proofs.lemmas.Int.{ints}
use Rattle.std.specs.Prelude.{unsigned_abs}
use lib.IntN.{◌-ℤ◌}
use Rattle.labelcache.proofs.text_anchors.is_close.Goals as goal

pub returns : goal.returns
returns c =
    let ai : to_z w64 (of_z w64 c.i.result) ≡ c.args.a.i = omega (arith, ints) in
    let bi : to_z w64 (of_z w64 c.i-2.result) ≡ c.args.b.i = omega (arith, ints) in
    let aj : to_z w64 (of_z w64 c.j.result) ≡ c.args.a.j = omega (arith, ints) in
    let bj : to_z w64 (of_z w64 c.j-2.result) ≡ c.args.b.j = omega (arith, ints) in
    let x : c.apart-across.result ≡ unsigned_abs (c.args.a.i -ℤ c.args.b.i) = rw (ai, bi) at c.apart-across.ensures in
    let y : c.apart-down.result ≡ unsigned_abs (c.args.a.j -ℤ c.args.b.j) = rw (aj, bj) at c.apart-down.ensures in
    rw (← x, ← y) c.is_within.ensures
