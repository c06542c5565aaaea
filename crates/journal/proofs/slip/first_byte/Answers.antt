use Rattle.journal.proofs.Stuffing.{front_is_no_end}
use Rattle.journal.proofs.slip.first_byte.Goals as goal

pub returns-in-192-clause-byte : goal.returns-in-192-clause-byte
returns-in-192-clause-byte c v same = front_is_no_end c.args.bytes.now v c.in-192.is same
