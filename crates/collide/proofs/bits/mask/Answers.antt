use Rattle.std.proofs.Common.{rules, ◌≡◌, ◌-◌, ◌*◌, ◌^◌, ◌<◌, min, arith}
use Rattle.collide.proofs.Bitwise.{mask-bit}
use Rattle.collide.proofs.bits.mask.Goals as goal

pub returns : goal.returns
returns c = λ k within.
    let low : c.min-low.result ≡ min (c.args.from - c.args.number * 64) 64 = search rules in
    let high : c.min-high.result ≡ min (c.args.past - c.args.number * 64) 64 = search rules in
    let small : 2 ^ c.min-low.result - 1 < 2 ^ 64 = search rules in
    let is = mask-bit c.min-low.result c.min-high.result k small within in
    rw (c.ones_below.ensures, c.ones_below-2.ensures)
    (λ h. let r = is.0 h in (omega (arith, low, r.0, within), omega (arith, high, r.1)), λ r. is.1 (omega (arith, low, r.0), omega (arith, high, r.1, within)))
