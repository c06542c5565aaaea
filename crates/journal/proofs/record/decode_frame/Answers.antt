use Rattle.std.proofs.Common.{◌≡◌, ℕ, ◌-◌, List, ◌++◌, length, take, drop, sym, subst, arith}
use Rattle.std.proofs.lemmas.Bool.{iff_false}
use Rattle.sha2.specs.Sha256.{sha256}
use Rattle.sha2.proofs.Facts256.{length-sha256}
use Rattle.journal.specs.Name.{name_bytes}
use Rattle.journal.specs.Slip.{stuffed}
use Rattle.journal.proofs.Digests.{too_short, ends_with_digest}
use Rattle.journal.proofs.record.decode_frame.Goals as goal

pub returns-then-len : goal.returns-then-len
returns-then-len c sequence batch long same =
    let is : c.args.frame.now ≡ stuffed c.in-Some.decoded.items = rw c.in-Some.is at c.in_ok-decoded.ensures in
    too_short sha256 (name_bytes c.args.name.now) length-sha256 c.args.frame.now c.in-Some.decoded.items sequence batch is same long (omega arith)

pub returns-then-not-ends_with_digest : goal.returns-then-not-ends_with_digest
returns-then-not-ends_with_digest c sequence batch long same =
    let is : c.args.frame.now ≡ stuffed c.in-Some.decoded.items = rw c.in-Some.is at c.in_ok-decoded.ensures in
    let sealed = ends_with_digest sha256 (name_bytes c.args.name.now) length-sha256 c.args.frame.now c.in-Some.decoded.items sequence batch is same in
    iff_false c.ends_with_digest.ensures c.if-not-ends_with_digest.true
    (subst (λ (l : List ℕ). drop (length l - 32) l ≡ sha256 ((name_bytes c.args.name.now) ++ take (length l - 32) l)) (sym c.as_slice.ensures.value) sealed)
