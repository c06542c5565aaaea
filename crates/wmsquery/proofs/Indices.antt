-- Indices that were found so far.
use Rattle.std.proofs.Common.{ℕ, List, ◌++◌, Result, Ok, Err}
use Rattle.wmsquery.specs.declared.fault.Code.{Code}

-- the indices that were found before others
abbrev pub found_with : List ℕ → Result (List ℕ) Code → Result (List ℕ) Code
found_with found (Ok indices) = Ok (found ++ indices)
found_with found (Err code) = Err code
