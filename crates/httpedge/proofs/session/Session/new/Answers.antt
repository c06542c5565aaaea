use Rattle.std.proofs.Common.{arith}
use Rattle.httpedge.proofs.Courses.{nothing-open}
use Rattle.httpedge.proofs.session.Session.new.Goals as goal

pub invariant_of-result : goal.invariant_of-result
invariant_of-result c = rw (c.in_ok-new.ensures) (record { count = omega arith; opened = nothing-open })
