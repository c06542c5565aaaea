use Rattle.std.proofs.Common.{◌≡◌, map, drop}
use Rattle.wmsquery.specs.Values.{is_among}
use Rattle.wmsquery.proofs.lists.is_among.Given as goal

abbrev pub invariant-loop-other : goal.invariant-loop-other
invariant-loop-other l =
    is_among l.fn.name (map (λ x. x.now) (drop l.other-index l.names)) ≡ is_among l.fn.name (map (λ x. x.now) l.names)
