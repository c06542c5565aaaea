use Rattle.std.proofs.Common.{sym, ◌∙◌}
use Rattle.std.proofs.lemmas.Str.{chars_past_char}
use Rattle.bdffont.proofs.Inking.{no-chars}
use Rattle.bdffont.proofs.text.split_char.Goals as goal

pub returns-in-Some-clause-chars : goal.returns-in-Some-clause-chars
returns-in-Some-clause-chars c = rw (c.from.ensures, c.as_str.ensures) (chars_past_char c.args.text.now _ c.in-Some.first c.utf8.text (sym c.chars-characters.ensures.rest ∙ c.in-Some.ensures.steps.0))

pub returns-in-None-clause-chars : goal.returns-in-None-clause-chars
returns-in-None-clause-chars c = no-chars c.args.text.now (rw c.chars-characters.ensures.rest at c.in-None.ensures.steps.0.0)
