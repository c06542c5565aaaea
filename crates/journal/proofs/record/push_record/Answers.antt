use Rattle.std.proofs.Common.{◌≡◌, ◌++◌, List, ℕ, [], ◌∷◌, ◌∙◌, sym, ap, append_assoc}
use Rattle.sha2.specs.Sha256.{sha256}
use Rattle.journal.specs.Name.{name_bytes}
use Rattle.journal.specs.Slip.{stuffed}
use Rattle.journal.specs.Record.{sequence_bytes}
use Rattle.journal.proofs.Stuffing.{stuffed_append}
use Rattle.journal.proofs.record.push_record.Goals as goal

-- three parts between two ENDs, after other bytes
parts : (old sequence batch record_digest : List ℕ) → (old ++ 192 ∷ [] ++ stuffed sequence ++ stuffed batch ++ stuffed record_digest) ++ 192 ∷ [] ≡ old ++ 192 ∷ (stuffed (sequence ++ (batch ++ record_digest)) ++ 192 ∷ [])
parts [] sequence batch record_digest =
    ap (λ (l : List ℕ). 192 ∷ (l ++ 192 ∷ []))
    (append_assoc (stuffed sequence) (stuffed batch) (stuffed record_digest) ∙ ap (λ (l : List ℕ). stuffed sequence ++ l) (sym (stuffed_append batch record_digest)) ∙ sym (stuffed_append sequence (batch ++ record_digest)))
parts (b ∷ old) sequence batch record_digest = ap (λ (l : List ℕ). b ∷ l) (parts old sequence batch record_digest)

pub returns : goal.returns
returns c =
    let old = c.args.out.now.items in
    let sequence = c.sequence-sequence.result in
    let batch = c.args.batch.now in
    let record_digest = c.record_digest-digest.result in
    let begin : c.push.new.self.items ≡ old ++ 192 ∷ [] = c.in_ok-push.ensures.items ∙ ap (λ (l : List ℕ). l ++ 192 ∷ []) c.reserve.ensures.items in
    let first : c.push_stuffed.new.out.items ≡ old ++ 192 ∷ [] ++ stuffed sequence = c.in_ok-push_stuffed.ensures.ok ∙ ap (λ (l : List ℕ). l ++ stuffed sequence) begin in
    let second : c.push_stuffed-2.new.out.items ≡ old ++ 192 ∷ [] ++ stuffed sequence ++ stuffed batch = c.in_ok-push_stuffed-2.ensures.ok ∙ ap (λ (l : List ℕ). l ++ stuffed batch) first in
    let third : c.push_stuffed-3.new.out.items ≡ old ++ 192 ∷ [] ++ stuffed sequence ++ stuffed batch ++ stuffed record_digest = c.in_ok-push_stuffed-3.ensures.ok ∙ ap (λ (l : List ℕ). l ++ stuffed record_digest) second in
    let all : c.push-2.new.self.items ≡ old ++ 192 ∷ (stuffed (sequence ++ (batch ++ record_digest)) ++ 192 ∷ []) = c.in_ok-push-2.ensures.items ∙ ap (λ (l : List ℕ). l ++ 192 ∷ []) third ∙ parts old sequence batch record_digest in
    let sealed : record_digest ≡ sha256 ((name_bytes c.args.name.now) ++ (sequence ++ batch)) = c.record_digest-digest.ensures in
    let numbered : sequence ≡ sequence_bytes c.args.number = c.sequence-sequence.ensures in
    record {
      spelled = all ∙ ap (λ (l : List ℕ). old ++ 192 ∷ (stuffed (sequence ++ (batch ++ l)) ++ 192 ∷ [])) sealed
          ∙ ap (λ (p : List ℕ). old ++ 192 ∷ (stuffed (p ++ (batch ++ sha256 ((name_bytes c.args.name.now) ++ (p ++ batch)))) ++ 192 ∷ [])) numbered;
    }
