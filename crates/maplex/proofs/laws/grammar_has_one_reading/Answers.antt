use Rattle.maplex.proofs.OneReading.{grammar-has_one_reading}
use Rattle.maplex.proofs.laws.grammar_has_one_reading.Goals as goal

pub returns : goal.returns
returns c = grammar-has_one_reading
