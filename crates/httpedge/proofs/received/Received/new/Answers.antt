use Rattle.std.proofs.Common.{length, ap, arith}
use Rattle.std.specs.List.{list_all}
use Rattle.httpedge.specs.Received.{is_newline}
use Rattle.httpedge.proofs.Heads.{nothing-headless}
use Rattle.httpedge.proofs.received.Received.new.Goals as goal

pub returns-clause-received : goal.returns-clause-received
returns-clause-received c =
    let none = c.in_ok-with_capacity.ensures.items in
    record {
      room = omega (arith, c.in_ok-with_capacity.ensures.exact);
      limit = omega (arith, ap length none);
      blank = λ o e. ap (list_all is_newline) none;
      no_head = λ e. rw none nothing-headless;
      below = λ e. omega (arith, ap length none);
      recent = λ e. (omega arith, omega (arith, ap length none));
      target = (omega arith, omega arith);
    }
