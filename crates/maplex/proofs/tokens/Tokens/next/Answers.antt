use Rattle.std.proofs.Common.{ap, ◌∙◌, sym}
use Rattle.maplex.specs.Lexed.{lexed_from, ended, with_token}
use Rattle.maplex.proofs.Lexing.{lexed_from-empty, lexed_from-read, lexed_from-stopped}
use Rattle.maplex.proofs.tokens.Tokens.next.Goals as goal

pub returns-in-Ok-clause-token : goal.returns-in-Ok-clause-token
returns-in-Ok-clause-token c =
    sym c.self.view_is
    ∙ lexed_from-read c.self.inside.at c.skip_blanks.new.self c.in-Ok.token _ c.skip_blanks.ensures c.in-Ok.ensures.token
    ∙ ap (λ p. with_token c.in-Ok.token (lexed_from p)) (sym c.pass.ensures)

pub returns-in-Err-clause-tail : goal.returns-in-Err-clause-tail
returns-in-Err-clause-tail c =
    sym c.self.view_is ∙ lexed_from-stopped c.self.inside.at c.skip_blanks.new.self c.in-Err.tail c.skip_blanks.ensures c.in-Err.ensures.tail

pub returns-in-Err-clause-after : goal.returns-in-Err-clause-after
returns-in-Err-clause-after c = ap lexed_from c.end-self-inside.ensures ∙ lexed_from-empty c.line.result ∙ ap ended c.line.ensures
