use Rattle.std.proofs.Common.{◌≡◌, ℕ, ◌≤◌, List, length, take, drop, sym, ◌∙◌, ap, arith, length-take, rules}
use Rattle.std.proofs.lemmas.Bool.{iff_false}
use Rattle.sha2.specs.Sha256.{sha256}
use Rattle.sha2.proofs.Facts256.{length-sha256}
use Rattle.journal.specs.Name.{name_bytes}
use Rattle.journal.specs.Slip.{stuffed}
use Rattle.journal.specs.Record.{sequence_bytes, body}
use Rattle.journal.proofs.Frames.{same_body, length-sequence_bytes}
use Rattle.journal.proofs.record.decode.Goals as goal

pub returns-in_default : goal.returns-in_default
returns-in_default c =
    let none : (sequence batch : List ℕ) → length sequence ≡ 8 → c.args.frame.now ≡ stuffed (body sha256 (name_bytes c.args.name.now) sequence batch) → ⊥ = rw c.in_default.is at c.in_ok-decoded.ensures in
    record { numbered = λ batch same. none (sequence_bytes c.args.number) batch (length-sequence_bytes c.args.number) same }

pub returns-then-not-is_equal : goal.returns-then-not-is_equal
returns-then-not-is_equal c =
    let decoded = c.in-Some.decoded.items in
    let found : (8 ≤ length decoded) × (c.args.frame.now ≡ stuffed (body sha256 (name_bytes c.args.name.now) (take 8 decoded) (drop 8 decoded))) = rw c.in-Some.is at c.in_ok-decoded.ensures in
    record {
      numbered = λ batch same.
          let parts = same_body sha256 (name_bytes c.args.name.now) length-sha256 (take 8 decoded) (sequence_bytes c.args.number) (drop 8 decoded) batch (omega (arith, length-take 8 decoded, found.0, length-sequence_bytes c.args.number)) (sym found.1 ∙ same) in
          iff_false c.is_equal.ensures c.if-not-is_equal.true
          (c.split_at.ensures.front ∙ ap (λ (l : List ℕ). take 8 l) c.as_slice.ensures.value ∙ parts.0 ∙ sym (c.as_slice-2.ensures ∙ c.sequence.ensures));
    }

pub returns : goal.returns
returns c =
    let decoded = c.in-Some.decoded.items in
    let found : (8 ≤ length decoded) × (c.args.frame.now ≡ stuffed (body sha256 (name_bytes c.args.name.now) (take 8 decoded) (drop 8 decoded))) = rw c.in-Some.is at c.in_ok-decoded.ensures in
    let front : take 8 decoded ≡ sequence_bytes c.args.number =
    ap (λ (l : List ℕ). take 8 l) (sym c.as_slice.ensures.value) ∙ (sym c.split_at.ensures.front ∙ (c.is_equal.ensures.0 c.if-not-is_equal.false ∙ (c.as_slice-2.ensures ∙ c.sequence.ensures))) in
    let copied : c.in_ok-to_vec.field-0.items ≡ c.split_at.result.1.now = search rules in
    let back : drop 8 decoded ≡ c.in_ok-to_vec.field-0.items = ap (λ (l : List ℕ). drop 8 l) (sym c.as_slice.ensures.value) ∙ (sym c.split_at.ensures.back ∙ sym copied) in
    record { numbered = found.1 ∙ ap (λ (p : List ℕ). stuffed (body sha256 (name_bytes c.args.name.now) p (drop 8 decoded))) front ∙ ap (λ (b : List ℕ). stuffed (body sha256 (name_bytes c.args.name.now) (sequence_bytes c.args.number) b)) back }
