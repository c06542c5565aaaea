use Rattle.std.proofs.Common.{◌∙◌, ap, sym}
use Rattle.std.specs.Prelude.{option_map}
use Rattle.mapvalues.specs.Values.{scale_in}
use Rattle.mapvalues.proofs.Lasts.{found-last, none-last}
use Rattle.mapvalues.proofs.values.Values.scale.Goals as goal

pub returns-in-Some : goal.returns-in-Some
returns-in-Some c =
    c.scale_in.ensures
    ∙ sym (found-last (scale_in c.args.keyword) c.args.self.now c.in-Some.value.now (sym c.last.ensures ∙ ap (option_map (λ x. x.now)) c.in-Some.is))

pub returns-in-None : goal.returns-in-None
returns-in-None c =
    sym (none-last (scale_in c.args.keyword) c.args.self.now (sym c.last.ensures ∙ ap (option_map (λ x. x.now)) c.in-None.is))
