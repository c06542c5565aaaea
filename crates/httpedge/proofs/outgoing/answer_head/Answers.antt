use Rattle.std.proofs.Common.{refl}
use Rattle.httpedge.proofs.outgoing.answer_head.Goals as goal

pub returns : goal.returns
returns c = rw (c.add-6.ensures, c.add-5.ensures, c.add-4.ensures, c.add-3.ensures, c.add-2.ensures, c.add.ensures, c.new-head.ensures, c.head_end.ensures.text) refl
