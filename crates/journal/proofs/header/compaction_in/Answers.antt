use Rattle.std.proofs.Common.{◌≡◌, ℕ, List, ◌++◌, ◌∙◌, sym}
use Rattle.std.proofs.lemmas.Bool.{iff_false}
use Rattle.journal.specs.Record.{sequence_bytes}
use Rattle.journal.proofs.Frames.{length-sequence_bytes, same_begin}
use Rattle.journal.proofs.header.compaction_in.Goals as goal

-- what follows a number is what follows the bytes of another one
after_number : (n m : ℕ) (x y bytes : List ℕ) → bytes ≡ sequence_bytes n ++ x → bytes ≡ sequence_bytes m ++ y → x ≡ y
after_number n m x y bytes one other = (same_begin (sequence_bytes n) (sequence_bytes m) x y (length-sequence_bytes n ∙ sym (length-sequence_bytes m)) (sym one ∙ other)).1

pub returns-in_default-first_number : goal.returns-in_default-first_number
returns-in_default-first_number c compaction same =
    let after = after_number c.in-Some.skipped compaction.skipped c.in-Some.rest.now _ c.args.name.now c.in-Some.ensures same in
    c.in_default-first_number.ensures compaction.written c.args.fingerprint.now after

pub returns-then-not-is_equal : goal.returns-then-not-is_equal
returns-then-not-is_equal c compaction same =
    let after = after_number c.in-Some.skipped compaction.skipped c.in-Some.rest.now _ c.args.name.now c.in-Some.ensures same in
    let found = after_number c.in-Some-first_number.written compaction.written c.in-Some-first_number.found.now c.args.fingerprint.now c.in-Some.rest.now c.in-Some-first_number.ensures after in
    iff_false c.is_equal.ensures c.if-not-is_equal.true (found ∙ sym c.as_slice.ensures)
