use Rattle.subcommands.proofs.Explaining.{has-mapfile}
use Rattle.subcommands.proofs.reading.read_explained.Goals as goal

pub returns-in-Ok-clause-mapfile : goal.returns-in-Ok-clause-mapfile
returns-in-Ok-clause-mapfile g c = has-mapfile _ _ _ _ _ _ _ c.in_ok-source.ensures.bytes c.deref.ensures.value c.in-Ok.ensures.map
