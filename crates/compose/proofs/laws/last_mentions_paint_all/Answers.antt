use Rattle.compose.proofs.Mentions.{last-mentions-paint-all}
use Rattle.compose.proofs.laws.last_mentions_paint_all.Goals as goal

pub returns : goal.returns
returns c = last-mentions-paint-all
