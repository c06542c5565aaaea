use Rattle.std.proofs.Common.{◌≡◌, ◌∙◌, ◌^◌, ap, arith}
use Rattle.std.proofs.lemmas.Int.{ints}
use Rattle.std.specs.Int.RustNames.{unsigned_abs}
use Rattle.scanfill.proofs.Words.{wide}
use Rattle.strokes.proofs.Rounded.{root-is, root-small, word-nat}
use Rattle.strokes.proofs.root.root.Goals as goal

pub returns-clause-root : goal.returns-clause-root
returns-clause-root c =
    let size : c.unsigned_abs.result ≡ unsigned_abs c.args.n = c.unsigned_abs.ensures.value ∙ ap unsigned_abs (wide (2 ^ 120) c.args.n (omega arith) c.requires.range) in
    let small = root-small c.args.n c.unsigned_abs.result c.isqrt.result c.requires.range size c.isqrt.ensures.square_le in
    rw (word-nat c.isqrt.result small)
    (root-is c.args.n c.unsigned_abs.result c.isqrt.result c.requires.least size c.isqrt.ensures.square_le c.isqrt.ensures.next_square_gt)

pub returns-clause-range : goal.returns-clause-range
returns-clause-range c =
    let size : c.unsigned_abs.result ≡ unsigned_abs c.args.n = c.unsigned_abs.ensures.value ∙ ap unsigned_abs (wide (2 ^ 120) c.args.n (omega arith) c.requires.range) in
    let small = root-small c.args.n c.unsigned_abs.result c.isqrt.result c.requires.range size c.isqrt.ensures.square_le in
    rw (word-nat c.isqrt.result small) (record { above = omega (arith, ints); below = omega (arith, ints, small) })
