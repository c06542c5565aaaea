use Rattle.journal.specs.Texts.{texts_of}
use Rattle.administration.proofs.Together.{HaveCome}
use Rattle.administration.proofs.group.read_group.Given as goal

-- these batches were read
abbrev pub invariant-loop : goal.invariant-loop
invariant-loop g l = HaveCome (g.I.Source.left l.fn.reader) (g.I.Source.left l.reader) (texts_of l.batches.items) l.counter
