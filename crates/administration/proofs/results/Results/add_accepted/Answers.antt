use Rattle.std.proofs.Common.{length, arith, ap, length-append}
use Rattle.administration.specs.Keeping.{accepted_results}
use Rattle.administration.proofs.Groups.{results-count}
use Rattle.administration.proofs.results.Results.add_accepted.Goals as goal

pub push-requires : goal.push-requires
push-requires c =
    let left = accepted_results c.args.sequence c.loop-left.left in
    let all = accepted_results c.args.sequence c.args.count in
    omega (
      arith,
      ap length c.loop-left.invariant,
      length-append c.loop-left.self left,
      length-append c.args.self.now all,
      results-count c.args.sequence c.loop-left.left,
      results-count c.args.sequence c.args.count,
      c.requires,
      c.loop-left-test.true,
    )
