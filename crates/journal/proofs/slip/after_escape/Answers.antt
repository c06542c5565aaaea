use Rattle.journal.proofs.Stuffing.{no_lone_escape, no_other_escape}
use Rattle.journal.proofs.slip.after_escape.Goals as goal

pub returns-in_default-clause-byte : goal.returns-in_default-clause-byte
returns-in_default-clause-byte c v same = no_lone_escape c.args.bytes.now v c.in_default.len_below same

pub returns-clause-byte : goal.returns-clause-byte
returns-clause-byte c v same = no_other_escape c.args.bytes.now v c.if-code.false c.if-code-2.false same
