use Rattle.std.proofs.Common.{◌≡◌, ◌-◌, arith, ◌^◌, ap, ◌∙◌, ℕ}
use Rattle.std.proofs.lemmas.Nat.Bits.{ones_shr}
use Rattle.collide.proofs.bits.ones_below.Goals as goal

pub returns : goal.returns
returns c =
    let e : 64 - (64 - c.args.count) ≡ c.args.count = omega (arith, c.requires) in
    ones_shr 64 (64 - c.args.count) (omega arith) ∙ ap (λ (n : ℕ). 2 ^ n - 1) e
