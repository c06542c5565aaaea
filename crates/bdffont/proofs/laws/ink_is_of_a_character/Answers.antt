use Rattle.bdffont.proofs.Characters.{ink-is-of-a-character}
use Rattle.bdffont.proofs.laws.ink_is_of_a_character.Goals as goal

pub returns : goal.returns
returns c = ink-is-of-a-character
