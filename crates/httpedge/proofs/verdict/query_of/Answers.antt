use Rattle.std.proofs.Common.{◌∙◌}
use Rattle.httpedge.proofs.Targets.{query-after}
use Rattle.httpedge.proofs.verdict.query_of.Goals as goal

pub returns : goal.returns
returns c = c.split_at.ensures.back ∙ query-after c.args.target.now c.path_len.result c.min.result c.path_len.ensures.value c.min.ensures
