use Rattle.std.proofs.Common.{◌≡◌, ◌∙◌, ap, sym, subst, Ok}
use Rattle.std.specs.Result.{MatchResult}
use Rattle.mapwords.specs.Fault.{IsFaultOf}
use Rattle.maptree.specs.Pass.{pass_of}
use Rattle.maptree.proofs.mapfile.pass.Goals as goal

pub returns : goal.returns
returns c =
    let left = c.begin.new.tokens in
    subst (λ read. MatchResult c.read_tokens-found.result (λ tree. read ≡ Ok tree) (IsFaultOf read))
    (c.in_ok-reader.ensures left.tokens left.tail ∙ (sym c.in_ok-begin.ensures ∙ ap pass_of c.new-tokens.ensures)) c.read_tokens-found.ensures
