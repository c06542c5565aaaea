use Rattle.std.proofs.Common.{◌∙◌, ap, not}
use Rattle.scaledenom.proofs.Products.{taken}
use Rattle.featureinfo.specs.Reach.{box_reaches}
use Rattle.featureinfo.proofs.few_edges.is_beyond.Goals as goal

pub returns-clause-value : goal.returns-clause-value
returns-clause-value c =
    ap not (c.box_reaches.ensures.value
    ∙ ap (λ limit. box_reaches c.args.near.now.projection.now c.args.area limit c.args.side) (taken c.limit_of.result c.limit_of.type_inv ∙ c.limit_of.ensures))
