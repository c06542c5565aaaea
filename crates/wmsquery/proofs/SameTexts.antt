-- Texts that are the same for each parameter are the same.
use Rattle.std.proofs.Common.{◌≡◌}
use Rattle.wmsquery.specs.declared.fault.Parameter.{Parameter}
use Rattle.wmsquery.specs.Pairs.{Texts}

pub same-texts : (t u : Texts) → ((p : Parameter) → t p ≡ u p) → t ≡ u
same-texts t u same i p = same p i
