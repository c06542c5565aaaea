use Rattle.std.proofs.Common.{arith}
use Rattle.scanfill.proofs.Covering.{spans-test}
use Rattle.scanfill.proofs.laws.spans.Goals as goal

pub returns : goal.returns
returns c = λ test end spans runs i h. spans-test test 0 end i spans runs (omega arith) h
