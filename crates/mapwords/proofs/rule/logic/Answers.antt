use Rattle.std.proofs.Common.{◌≡◌, ℕ, List, Option, None, Some, refl, ap, IfSome}
use Rattle.std.specs.Prelude.{option_map}
use Rattle.mapdefs.specs.declared.class.Rule.TheVariants.{Logic}
use Rattle.mapdefs.specs.declared.expr.Expr.{Expr}
use Rattle.expressions.specs.Grammar.{IsLogic}
use Rattle.expressions.specs.Reading.{logic_of}
use Rattle.expressions.proofs.CompleteParts.{logic-found}
use Rattle.expressions.proofs.SoundParts.{logic-sound}
use Rattle.mapwords.proofs.rule.logic.Goals as goal

-- a text without a tree has none by the grammar
no-tree : (text : List ℕ) (found : Option Expr) → IfSome found (IsLogic text) → ((e : Expr) → IsLogic text e → ⊥) → found ≡ None
no-tree text (Some e) is none = absurd (none e is)
no-tree text None is none = refl

pub returns-in-Ok-clause-tree : goal.returns-in-Ok-clause-tree
returns-in-Ok-clause-tree c = rw c.as_bytes.ensures.value at (logic-found c.as_bytes.result.now c.in-Ok.expr c.in-Ok.ensures.tree)

pub returns-in-Err-Fault-clause-tree : goal.returns-in-Err-Fault-clause-tree
returns-in-Err-Fault-clause-tree c =
    let none = rw (c.in-Err-Fault.field-0-is, c.as_bytes.ensures.value) at c.in-Err-Fault.ensures.fault in
    ap (λ (found : Option Expr). option_map (λ e. Logic e) found) (no-tree c.args.text.now (logic_of c.args.text.now) (logic-sound c.args.text.now) none)
