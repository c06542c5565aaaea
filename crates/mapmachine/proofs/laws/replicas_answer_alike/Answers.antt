use Rattle.mapmachine.proofs.Replicas.{replicas-answer-alike}
use Rattle.mapmachine.proofs.laws.replicas_answer_alike.Goals as goal

pub returns : goal.returns
returns c = replicas-answer-alike c.one_meaning.ensures c.one_smooth_picture.ensures c.one_hit_list.ensures
