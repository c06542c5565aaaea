use Rattle.capabilities.proofs.Tags.{tags-law}
use Rattle.capabilities.proofs.laws.texts_change_no_tags.Goals as goal

pub returns : goal.returns
returns c = tags-law
