use Rattle.httpedge.specs.declared.conn.TheConstants.{REQUESTS}
use Rattle.httpedge.proofs.Wanted.{prefixes-want}
use Rattle.httpedge.proofs.laws.prefixes_want.Goals as goal

pub returns : goal.returns
returns c = prefixes-want REQUESTS
