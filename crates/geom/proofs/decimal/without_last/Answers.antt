use Rattle.std.proofs.Common.{sym, ap, arith, ◌+◌, ◌-◌, ◌++◌, length, length-append, take, get_or, nat_le}
use Rattle.geom.specs.Decimal.{number_of}
use Rattle.geom.specs.Capped.{clamped_to_limits}
use Rattle.geom.proofs.Caps.{rounded-capped}
use Rattle.geom.proofs.Cuts.{cut-all, cut-last, digits-both}
use Rattle.geom.proofs.decimal.without_last.Goals as goal

pub returns-then-count-len : goal.returns-then-count-len
returns-then-count-len c =
    let digits = c.args.whole.now ++ c.args.decimals.now in
    sym (ap clamped_to_limits (cut-all digits c.args.count (digits-both c.args.whole.now c.args.decimals.now c.requires.digits) (omega (arith, length-append c.args.whole.now c.args.decimals.now))))

pub returns : goal.returns
returns c =
    let digits = c.args.whole.now ++ c.args.decimals.now in
    let kept = length c.args.whole.now + length c.args.decimals.now - c.args.count in
    rw (
      c.saturating_add.ensures,
      c.first_digits.ensures,
      c.from.ensures,
      c.digit_at-rounds_up.ensures,
      cut-last digits kept c.args.count (digits-both c.args.whole.now c.args.decimals.now c.requires.digits) c.requires.some (omega (arith, length-append c.args.whole.now c.args.decimals.now)),
    )
    (rounded-capped (number_of (take kept digits)) (nat_le 53 (get_or digits kept 0)))
