use Rattle.wmsquery.proofs.WrittenQuery.{written-is-meant}
use Rattle.wmsquery.proofs.laws.written_requests.Goals as goal

pub returns : goal.returns
returns c = written-is-meant
