use Rattle.std.proofs.Common.{subst, IfSome}
use Rattle.expressions.specs.Grammar.{IsLogic}
use Rattle.expressions.proofs.CompleteParts.{logic-found}
use Rattle.expressions.proofs.SoundParts.{logic-sound}
use Rattle.expressions.proofs.laws.reading_follows_grammar.Goals as goal

pub returns : goal.returns
returns c = λ written e. (λ is. subst (λ r. IfSome r (IsLogic written)) is (logic-sound written), logic-found written e)
