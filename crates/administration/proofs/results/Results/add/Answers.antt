use Rattle.std.proofs.Common.{arith, length-append}
use Rattle.administration.specs.Keeping.{accepted_results, refused_results}
use Rattle.administration.proofs.Groups.{results-count}
use Rattle.administration.proofs.results.Results.add.Goals as goal

pub add_accepted-requires : goal.add_accepted-requires
add_accepted-requires c =
    let front = c.args.front in
    omega (arith, c.requires, length-append (accepted_results front.sequence front.accepted) (refused_results front.refused), results-count front.sequence front.accepted)
