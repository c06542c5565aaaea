use Rattle.subcommands.proofs.Serving.{ends-on}
use Rattle.subcommands.proofs.playing.play_on.Goals as goal

pub returns-in-Ok-clause-ends : goal.returns-in-Ok-clause-ends
returns-in-Ok-clause-ends g c = ends-on c.args.map c.play_out.result c.args.script.now _ _ _ (rw c.in-Ok.ensures at c.play_out.ensures.ends)
