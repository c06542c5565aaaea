-- How one token is read joins how the others are.
use Rattle.std.proofs.Common.{inl}
use Rattle.std.proofs.lemmas.Result.{err_from_is_err_and}
use Rattle.maptree.proofs.Joining.{step-error, answer-moved, sound-moved}
use Rattle.maptree.proofs.reader.Reader.take.Goals as goal

pub returns-in_err-next-clause-err : goal.returns-in_err-next-clause-err
returns-in_err-next-clause-err c =
    let p = err_from_is_err_and c.from_residual.result c.from_residual.ensures.1 in
    rw (p.1, p.2, c.in-Some.ensures)
    (step-error c.args.token.now c.in-Some.context c.pop.new.self c.args.self.now.drafts _ c.in_err-next.ensures)

pub returns-in_err-go_on-clause-err : goal.returns-in_err-go_on-clause-err
returns-in_err-go_on-clause-err c =
    let p = err_from_is_err_and c.from_residual-in_err-go_on.result c.from_residual-in_err-go_on.ensures.1 in
    rw (p.1, p.2, c.in-Some.ensures)
    (λ f. inl (sound-moved f c.args.token.now c.in-Some.context c.pop.new.self c.args.self.now.drafts _ _ c.in_ok-next.ensures))

pub returns-clause-ok : goal.returns-clause-ok
returns-clause-ok c = λ ts tail.
    rw (c.in-Some.ensures, c.in_ok-go_on.ensures)
    (answer-moved tail c.args.token.now ts c.in-Some.context c.pop.new.self c.args.self.now.drafts _ _ c.in_ok-next.ensures)
