-- What is done with a result: an error is handed on.
use Rattle.std.specs.Prelude.{Result, Ok, Err}

abbrev pub and_then : {A B E : Type 0} → Result A E → (A → Result B E) → Result B E
and_then (Ok a) next = next a
and_then (Err e) next = Err e
