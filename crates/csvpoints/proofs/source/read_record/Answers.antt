use Rattle.csvpoints.proofs.Records.{read-found}
use Rattle.csvpoints.proofs.source.read_record.Goals as goal

pub returns : goal.returns
returns c =
    read-found _ _ _ _ c.requires (c.in-Ok.ensures.ready c.requires.untrimmed) (c.in-Ok.ensures.reads c.requires.untrimmed c.requires.ready)
