use Rattle.httpedge.specs.Exchange.{says_next}
use Rattle.httpedge.proofs.Serving.{serve-further}
use Rattle.httpedge.proofs.laws.steps_answer.Goals as goal

pub returns : goal.returns
returns c = serve-further says_next
