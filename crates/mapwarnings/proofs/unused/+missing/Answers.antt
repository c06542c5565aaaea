use Rattle.std.proofs.Common.{sym, ◌∙◌, ap}
use Rattle.mapwarnings.specs.Unused.{lacks_in}
use Rattle.mapwarnings.proofs.Lacks.{lacks-or, lacks-and, lacks-not}
use Rattle.mapwarnings.proofs.unused.+missing.Goals as goal

pub lacks_in-returns-in-Or : goal.lacks_in-returns-in-Or
lacks_in-returns-in-Or t c =
    let f = lacks_in c.args.items.now in
    rw c.as_slice.ensures at c.lacks_in_some.ensures ∙ sym (ap f c.in-Or.is ∙ lacks-or c.args.items.now c.in-Or.parts)

pub lacks_in-returns-in-And : goal.lacks_in-returns-in-And
lacks_in-returns-in-And t c =
    let f = lacks_in c.args.items.now in
    rw c.as_slice-in-And.ensures at c.lacks_in_some-in-And.ensures ∙ sym (ap f c.in-And.is ∙ lacks-and c.args.items.now c.in-And.parts)

pub lacks_in-returns-in-Not : goal.lacks_in-returns-in-Not
lacks_in-returns-in-Not t c =
    let f = lacks_in c.args.items.now in
    rw c.get.ensures at c.lacks_in.ensures ∙ sym (ap f c.in-Not.is ∙ lacks-not c.args.items.now c.in-Not.part)
