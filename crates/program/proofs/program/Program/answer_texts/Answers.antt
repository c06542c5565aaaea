use Rattle.std.proofs.Common.{inl, refl}
use Rattle.program.proofs.program.Program.answer_texts.Goals as goal

pub returns-in-Ok : goal.returns-in-Ok
returns-in-Ok g c =
    inl (record {
      command = c.in-Ok.command;
      asked = c.in-Ok.ensures.command;
      middle = _;
      performs = c.perform-ending.ensures.performs;
      input = refl;
      output = refl;
      explained = rw (c.explains_end.ensures, c.outcome.ensures) at c.explain_end.ensures;
    })
