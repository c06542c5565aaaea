use Rattle.std.proofs.Common.{◌∙◌, ap, sym}
use Rattle.std.specs.Prelude.{option_map}
use Rattle.mapvalues.specs.Values.{count_in}
use Rattle.mapvalues.proofs.Lasts.{found-last, none-last}
use Rattle.mapvalues.proofs.values.Values.count.Goals as goal

pub returns-in-Some-clause-value : goal.returns-in-Some-clause-value
returns-in-Some-clause-value c =
    c.count_in.ensures.value
    ∙ sym (found-last (count_in c.args.keyword) c.args.self.now c.in-Some.value.now (sym c.last.ensures ∙ ap (option_map (λ x. x.now)) c.in-Some.is))

pub returns-in-None-clause-value : goal.returns-in-None-clause-value
returns-in-None-clause-value c =
    sym (none-last (count_in c.args.keyword) c.args.self.now (sym c.last.ensures ∙ ap (option_map (λ x. x.now)) c.in-None.is))
