use Rattle.maplex.proofs.Lexing.{bytes-are-enough}
use Rattle.maplex.proofs.laws.bytes_are_enough.Goals as goal

pub returns : goal.returns
returns c = bytes-are-enough
