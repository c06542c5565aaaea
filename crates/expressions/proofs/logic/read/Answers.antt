use Rattle.std.proofs.Common.{◌≡◌, None, Some, subst, sym, ◌∙◌, IfSome}
use Rattle.expressions.specs.Grammar.{IsLogic}
use Rattle.expressions.proofs.CompleteParts.{logic-found}
use Rattle.expressions.proofs.Limits.{logic-within}
use Rattle.expressions.proofs.SoundParts.{logic-sound}
use Rattle.expressions.proofs.logic.read.Goals as goal

pub returns-in-Ok-clause-tree : goal.returns-in-Ok-clause-tree
returns-in-Ok-clause-tree c = subst (λ r. IfSome r (IsLogic c.args.text.now)) c.in-Ok.ensures (logic-sound c.args.text.now)

pub returns-in-Ok-clause-limits : goal.returns-in-Ok-clause-limits
returns-in-Ok-clause-limits c = logic-within c.args.text.now c.in-Ok.expr (returns-in-Ok-clause-tree c)

pub returns-in-Err-Fault-clause-fault : goal.returns-in-Err-Fault-clause-fault
returns-in-Err-Fault-clause-fault c = λ e is.
    let none = rw c.in-Err-Fault.field-0-is at c.in-Err-Fault.ensures in
    let same : None ≡ Some e = sym none ∙ logic-found c.args.text.now e is in cc
