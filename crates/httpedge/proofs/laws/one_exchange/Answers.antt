use Rattle.std.proofs.Common.{[]}
use Rattle.httpedge.specs.declared.conn.TheConstants.{REQUESTS}
use Rattle.httpedge.proofs.Exchanges.{exchange-is-one}
use Rattle.httpedge.proofs.laws.one_exchange.Goals as goal

pub returns : goal.returns
returns c = λ stream outcomes a b x y. (exchange-is-one REQUESTS stream outcomes a b [] [] x y).0
