use Rattle.std.proofs.Common.{◌≡◌, ◌+◌, ◌<◌, ◌∷◌, length, drop, get_or, arith, add-one, drop-cons, sym, ◌∙◌, true}
use Rattle.std.specs.Char.{is_ascii_digit}
use Rattle.geom.proofs.UpTo.{number-step, digits-step}
use Rattle.geom.proofs.natural.read_digits.Goals as goal

pub loop-digit-preserved : goal.loop-digit-preserved
loop-digit-preserved c =
    let i = c.loop-digit.digit-index in
    let digits = c.args.digits.now in
    let within : i < length digits = omega arith in
    let here : drop i digits ≡ get_or digits i 0 ∷ drop (i + 1) digits = rw (add-one, drop-cons digits i 0) in
    let is_digit : is_ascii_digit (get_or digits i 0) ≡ true = sym c.is_ascii_digit.ensures.value ∙ c.if-not-is_ascii_digit.false in
    record {
      within = c.with_digit-number.ensures.bound;
      same = rw c.with_digit-number.ensures.value (number-step c.args.most c.loop-digit.number (get_or digits i 0) _ (drop (i + 1) digits) (rw here at c.loop-digit.invariant.same));
      digits = digits-step (get_or digits i 0) (drop (i + 1) digits) _ is_digit (rw here at c.loop-digit.invariant.digits);
    }
