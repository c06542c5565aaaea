use Rattle.std.proofs.Common.{rules, ◌≡◌, ◌<◌, ◌^◌, get_or, bit_and, refl, arith}
use Rattle.collide.proofs.Bitwise.{found-bit, none-next}
use Rattle.collide.proofs.bits.has_any.Goals as goal

pub returns-then-words-number-ne0 : goal.returns-then-words-number-ne0
returns-then-words-number-ne0 c =
    let w = get_or c.args.words.now c.loop-number.number 0 in
    let some : 0 < bit_and w c.mask.result = omega (arith, c.if-words-number-ne0.true) in
    let small : bit_and w c.mask.result < 2 ^ 64 = search rules in
    (λ h. found-bit c.loop-number.number c.args.from c.args.past c.mask.result w c.args.words.now refl c.mask.ensures some small, λ h. refl)

pub loop-number-preserved : goal.loop-number-preserved
loop-number-preserved c =
    let w = get_or c.args.words.now c.loop-number.number 0 in
    let none : bit_and w c.mask.result ≡ 0 = omega (arith, c.if-words-number-ne0.false) in
    none-next c.loop-number.number c.args.from c.args.past c.mask.result w c.args.words.now refl c.mask.ensures none c.loop-number.invariant
