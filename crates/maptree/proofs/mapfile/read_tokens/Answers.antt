use Rattle.std.proofs.lemmas.Result.{err_from_is_err_and}
use Rattle.maptree.proofs.Joining.{step-fault}
use Rattle.maptree.proofs.mapfile.read_tokens.Goals as goal

pub returns-in_err-take-in-Ok : goal.returns-in_err-take-in-Ok
returns-in_err-take-in-Ok c =
    let p = err_from_is_err_and c.from_residual.result c.from_residual.ensures.1 in
    rw (p.1, p.2, ← c.loop-token.invariant, c.in-Ok.ensures.token)
    (step-fault c.loop-token.reader c.in-Ok.token c.next.new.self.tokens c.next.new.self.tail _ c.in_err-take-in-Ok.ensures.err)
