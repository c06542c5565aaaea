use Rattle.std.proofs.Common.{◌∙◌, ◌++◌, ap, List, ℕ}
use Rattle.sha2.specs.Sha256.{sha256}
use Rattle.journal.specs.Fingerprint.{sized}
use Rattle.program.proofs.Fingerprints.{message-of}
use Rattle.program.proofs.keeping.fingerprint_of_map.Goals as goal

pub returns : goal.returns
returns c =
    rw (c.fingerprint_of.ensures, c.deref.ensures.value, c.deref-2.ensures.value)
    (ap (λ (text : List ℕ). sha256 (sized c.args.read.now.source.items ++ text)) (message-of c.in_ok-used.used.items c.args.read.now.files c.in_ok-used.ensures))
