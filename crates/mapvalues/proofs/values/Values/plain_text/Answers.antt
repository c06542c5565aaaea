use Rattle.std.proofs.Common.{◌∙◌, ap, sym}
use Rattle.std.specs.Prelude.{option_map}
use Rattle.mapwords.specs.declared.named.Named.{Named}
use Rattle.mapvalues.proofs.Lasts.{words-last}
use Rattle.mapvalues.proofs.values.Values.plain_text.Goals as goal

pub returns-in-Some : goal.returns-in-Some
returns-in-Some c =
    sym (words-last c.args.keyword c.args.self.now
    ∙ ap (option_map (λ (named : Named). named.text)) (sym c.text.ensures ∙ ap (option_map (λ x. x.now)) c.in-Some.is))

pub returns-in-None : goal.returns-in-None
returns-in-None c =
    sym (words-last c.args.keyword c.args.self.now
    ∙ ap (option_map (λ (named : Named). named.text)) (sym c.text.ensures ∙ ap (option_map (λ x. x.now)) c.in-None.is))
