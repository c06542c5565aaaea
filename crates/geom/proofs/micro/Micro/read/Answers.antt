use Rattle.std.proofs.Common.{◌∙◌, ap}
use Rattle.std.specs.Option.{option_map}
use Rattle.geom.specs.Capped.{clamped_to_limits}
use Rattle.geom.specs.Decimal.{is_negative, unsigned, Decimal, decimal_of, millionths_of}
use Rattle.geom.proofs.Caps.{found-same}
use Rattle.geom.proofs.micro.Micro.read.Goals as goal

pub returns-in-Some-clause-value : goal.returns-in-Some-clause-value
returns-in-Some-clause-value c =
    rw (c.limited.ensures.value, c.split_sign-is_negative.ensures.sign)
    (found-same c.args.limit (is_negative c.args.text.now) (decimal_of (unsigned c.args.text.now)) c.in-Some.size c.requires
    (c.in-Some.ensures ∙ ap (λ text. option_map (λ (d : Decimal). clamped_to_limits (millionths_of d)) (decimal_of text)) c.split_sign-is_negative.ensures.rest))
