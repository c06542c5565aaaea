use Rattle.std.proofs.Common.{◌≡◌, ℕ, Bool, if◌then◌else◌, List, ◌++◌, length, ◌∙◌, sym, ap, append_assoc, rules}
use Rattle.sha2.specs.Sha256.{sha256}
use Rattle.journal.specs.Name.{name_bytes}
use Rattle.journal.specs.Record.{signature, compacted_signature}
use Rattle.journal.proofs.Names.{header_of_compacted}
use Rattle.journal.proofs.header.push_header.Goals as goal

pub returns-in_ok-extend_from_slice : goal.returns-in_ok-extend_from_slice
returns-in_ok-extend_from_slice c =
    let out = c.args.out.now.items in
    let name = c.args.name.now in
    let bytes = name_bytes name in
    let long : length name.fingerprint ≡ 32 = search rules in
    let signed : c.push_signature.new.out.items ≡ out ++ compacted_signature =
    c.in_ok-push_signature.ensures ∙ ap (λ (b : Bool). out ++ (if b then compacted_signature else signature)) c.if-is_compacted.true in
    let named : c.push_name.new.out.items ≡ out ++ compacted_signature ++ bytes = c.in_ok-push_name.ensures ∙ ap (λ (l : List ℕ). l ++ bytes) signed in
    let sealed : c.extend_from_slice.new.self.items ≡ (out ++ compacted_signature ++ bytes) ++ sha256 bytes =
    c.in_ok-extend_from_slice.ensures.items ∙ ap (λ (l : List ℕ). l ++ c.digest_of_name.result) named ∙ ap (λ (l : List ℕ). (out ++ compacted_signature ++ bytes) ++ l) c.digest_of_name.ensures in
    sealed ∙ append_assoc (out ++ compacted_signature) bytes (sha256 bytes) ∙ append_assoc out compacted_signature (bytes ++ sha256 bytes)
    ∙ ap (λ (l : List ℕ). out ++ l) (sym (header_of_compacted sha256 name.fingerprint name.compaction long (sym c.is_some-is_compacted.ensures ∙ c.if-is_compacted.true)))
