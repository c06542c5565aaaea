use Rattle.maplex.proofs.Grammar.{lexed-follows_grammar}
use Rattle.maplex.proofs.laws.lexed_follows_grammar.Goals as goal

pub returns : goal.returns
returns c = lexed-follows_grammar
