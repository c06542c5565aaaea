use Rattle.std.proofs.Common.{[]}
use Rattle.httpedge.specs.declared.conn.TheConstants.{REQUESTS}
use Rattle.httpedge.proofs.Exchanges.{begun-prefix}
use Rattle.httpedge.proofs.laws.begun_is_prefix.Goals as goal

pub returns : goal.returns
returns c = λ stream outcomes left begun all x y. begun-prefix REQUESTS stream outcomes begun all left [] x y
