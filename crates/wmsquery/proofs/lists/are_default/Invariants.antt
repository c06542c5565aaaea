use Rattle.std.proofs.Common.{◌≡◌, map, drop}
use Rattle.std.specs.List.{list_all}
use Rattle.wmsquery.specs.Values.{is_default}
use Rattle.wmsquery.proofs.lists.are_default.Given as goal

abbrev pub invariant-loop-entry : goal.invariant-loop-entry
invariant-loop-entry l =
    list_all is_default (map (λ x. x.now) (drop l.entry-index l.entries)) ≡ list_all is_default (map (λ x. x.now) l.entries)
