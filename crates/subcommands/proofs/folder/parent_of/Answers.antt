use Rattle.std.proofs.Common.{arith}
use Rattle.std.proofs.lemmas.Str.Pattern.{rfind_char}
use Rattle.subcommands.proofs.Parents.{parent-to, parent-empty}
use Rattle.subcommands.proofs.folder.parent_of.Goals as goal

pub returns-in-Some : goal.returns-in-Some
returns-in-Some c =
    let last = rw c.in-Some.is at (rfind_char 47 c.args.path.now c.rfind.result c.rfind.ensures.cases (omega arith)) in
    rw c.split_at.ensures.front (parent-to c.args.path.now c.in-Some.slash last.0 last.1 last.2)

pub returns-in-None : goal.returns-in-None
returns-in-None c = parent-empty c.args.path.now (rw c.in-None.is at (rfind_char 47 c.args.path.now c.rfind.result c.rfind.ensures.cases (omega arith)))
