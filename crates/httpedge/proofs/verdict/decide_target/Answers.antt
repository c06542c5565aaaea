use Rattle.std.proofs.Common.{◌∙◌, sym}
use Rattle.httpedge.proofs.Targets.{target-served}
use Rattle.httpedge.proofs.verdict.decide_target.Goals as goal

pub returns-then-is_served : goal.returns-then-is_served
returns-then-is_served c = sym (target-served c.args.target.now c.split_at.result.0.now c.path_len.result _ c.path_len.ensures.value c.split_at.ensures.front (sym c.if-is_served.true ∙ c.is_served.ensures))

pub returns-else-is_served : goal.returns-else-is_served
returns-else-is_served c = sym (target-served c.args.target.now c.split_at.result.0.now c.path_len.result _ c.path_len.ensures.value c.split_at.ensures.front (sym c.if-is_served.false ∙ c.is_served.ensures))
