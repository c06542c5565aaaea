use Rattle.std.proofs.Common.{◌≡◌, ◌^◌, rules, arith}
use Rattle.std.proofs.Math.Nat.{pow-le-pow_right}
use Rattle.labelcache.proofs.cells.side_of.Goals as goal

pub returns-clause-most : goal.returns-clause-most
returns-clause-most c =
    let is : c.pow.result ≡ 2 ^ c.args.level = search rules in
    rw is (pow-le-pow_right (omega arith) c.requires)
