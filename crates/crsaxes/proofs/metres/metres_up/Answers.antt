use Rattle.std.proofs.Common.{◌≡◌, ◌∙◌, ap, neg_ℤ, arith}
use Rattle.std.proofs.lemmas.Int.{ints}
use Rattle.crsaxes.specs.Metres.{metres_down}
use Rattle.crsaxes.proofs.metres.metres_up.Goals as goal

pub returns : goal.returns
returns c =
    let opposite : c.new-opposite.result ≡ neg_ℤ c.args.degrees =
    omega (arith, ints, c.new-opposite.ensures, c.new.ensures, c.millionths.ensures, c.get.ensures.value, c.get.ensures.limits) in
    let down : c.metres_down.result ≡ metres_down (neg_ℤ c.args.degrees) = c.metres_down.ensures.value ∙ ap metres_down opposite in
    omega (arith, ints, c.new-2.ensures, c.millionths-2.ensures, down, c.metres_down.ensures.within)
