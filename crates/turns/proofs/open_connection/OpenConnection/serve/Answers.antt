use Rattle.std.proofs.Common.{◌≡◌, ◌∙◌, refl, sym, rules}
use Rattle.turns.proofs.Advancing.{then-nothing}
use Rattle.turns.specs.declared.turn.Next.TheVariants as next
use Rattle.turns.proofs.open_connection.OpenConnection.serve.Goals as goal

pub returns-then-eq-clause-served : goal.returns-then-eq-clause-served
returns-then-eq-clause-served g c =
    let turned = c.serve_turn-turned in
    let done : turned.result.next ≡ next.Done = search rules in
    record {
      turned = turned.result;
      advances = then-nothing g.A.Asks.answers g.T.Transport _ _ _ _ turned.ensures.advances c.shut_down.ensures.delivered c.shut_down.ensures.accepted;
      time = search rules;
      moves = λ e. absurd (let clash : next.Turn ≡ next.Done = sym e ∙ done in cc clash);
      called = turned.new.transport;
      calls = turned.ensures.calls;
      shut = λ e. c.shut_down.ensures.shuts;
      unshut = λ e. absurd (e done);
      next = rw done refl;
      waits = tt;
    }
