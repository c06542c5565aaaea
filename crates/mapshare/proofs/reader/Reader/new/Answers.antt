use Rattle.std.proofs.Common.{◌∙◌, ◌++◌, ap}
use Rattle.left_right.specs.Sides.{view}
use Rattle.mapshare.proofs.reader.Reader.new.Goals as goal

pub invariant_of-result : goal.invariant_of-result
invariant_of-result g c =
    let seen = (view c.args.end.place).seen in
    (seen, ap (λ z. z ++ seen) (c.copy.ensures ∙ c.requires.empty))
