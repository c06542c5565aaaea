-- Why the header that bytes begin with isn't that of a map's journal.
use Rattle.std.proofs.Common.{◌≡◌, inl, inr, ℕ, Option, None, Some, List, ◌++◌, length, sym, ◌∙◌, ap, refl, append_assoc}
use Rattle.std.proofs.lemmas.List.{append_cancel_left}
use Rattle.sha2.specs.Sha256.{sha256}
use Rattle.journal.specs.Header.{StartsWith, StartsSealed, StartsOfMap, IsHeaderFault}
use Rattle.journal.specs.Name.{journal_name, name_bytes, name_of}
use Rattle.journal.specs.Record.{signature, compacted_signature, header}
use Rattle.journal.specs.declared.name.Compaction.{Compaction}
use Rattle.journal.specs.declared.header.HeaderFault.{HeaderFault}
use Rattle.journal.specs.declared.header.HeaderFault.TheVariants as header_fault
use Rattle.journal.specs.declared.name.JournalName.{JournalName}
use Rattle.journal.proofs.Frames.{same_begin}
use Rattle.journal.proofs.Names.{two_signatures, not_earlier, compacted_not_earlier, length-name, plain_rest, compacted_rest}

module _ (fingerprint bytes : List ℕ) (long : length fingerprint ≡ 32) where
  -- the header of a journal of the map, by its compaction
  of_map : (P : Type 0) → ((compaction : Option Compaction) (rest : List ℕ) → bytes ≡ header sha256 (name_of fingerprint compaction) ++ rest → P)
      → StartsOfMap fingerprint bytes → P
  of_map P by (name, same, (rest, is)) =
      by name.compaction rest (is ∙ ap (λ (f : List ℕ). header sha256 (name_of f name.compaction) ++ rest) same)

  -- after the signature of a journal that was never compacted another fingerprint follows
  pub other_plain : (after : List ℕ) → bytes ≡ signature ++ after → ((rest : List ℕ) → after ≡ fingerprint ++ rest → ⊥) → StartsOfMap fingerprint bytes → ⊥
  other_plain after is none = of_map ⊥ by
    where
      by : (compaction : Option Compaction) (rest : List ℕ) → bytes ≡ header sha256 (name_of fingerprint compaction) ++ rest → ⊥
      by None rest same = none rest (append_cancel_left signature _ _ (sym is ∙ same ∙ plain_rest sha256 fingerprint rest long))
      by (Some c) rest same = two_signatures after _ (sym is ∙ same ∙ compacted_rest sha256 (name_of fingerprint (Some c)) rest (length-name fingerprint c long))

  -- the name of a compacted journal is that of another map
  pub other_compacted : (name after rest : List ℕ) → bytes ≡ compacted_signature ++ after → length name ≡ 48 → after ≡ name ++ rest
      → ((compaction : Compaction) → name ≡ name_of fingerprint (Some compaction) → ⊥) → StartsOfMap fingerprint bytes → ⊥
  other_compacted name after rest is long_name named none = of_map ⊥ by
    where
      by : (compaction : Option Compaction) (more : List ℕ) → bytes ≡ header sha256 (name_of fingerprint compaction) ++ more → ⊥
      by None more same = two_signatures (fingerprint ++ more) after (sym (plain_rest sha256 fingerprint more long) ∙ sym same ∙ is)
      by (Some c) more same =
          let read = name_of fingerprint (Some c) in
          let long_read = length-name fingerprint c long in
          let both : name ++ rest ≡ read ++ (sha256 read ++ more) =
          sym named ∙ append_cancel_left compacted_signature _ _ (sym is ∙ same ∙ compacted_rest sha256 read more long_read) in
          none c (same_begin name read _ _ (long_name ∙ sym long_read) both).0

-- bytes with a name and its digest after the signature
pub starts_sealed : (bytes after name rest : List ℕ) → bytes ≡ compacted_signature ++ after → length name ≡ 48 → after ≡ name ++ (sha256 name ++ rest) → StartsSealed bytes
starts_sealed bytes after name rest is long named = (
  name,
  long,
  (rest, is ∙ ap (λ (l : List ℕ). compacted_signature ++ l) (named ∙ sym (append_assoc name (sha256 name) rest)) ∙ sym (append_assoc compacted_signature (name ++ sha256 name) rest)),
)

-- and without them
pub unsealed : (bytes after : List ℕ) → bytes ≡ compacted_signature ++ after → ((name rest : List ℕ) → length name ≡ 48 → after ≡ name ++ (sha256 name ++ rest) → ⊥) → StartsSealed bytes → ⊥
unsealed bytes after is none (name, long, (rest, same)) =
    none name rest long
    (append_cancel_left compacted_signature _ _ (sym is ∙ same ∙ append_assoc compacted_signature (name ++ sha256 name) rest) ∙ append_assoc name (sha256 name) rest)

-- bytes that begin with the header of a journal of the map have no such fault
pub has_no_fault : (fingerprint bytes : List ℕ) (name : JournalName) → length fingerprint ≡ 32 → name.fingerprint ≡ fingerprint
    → StartsWith (header sha256 (name_bytes name)) bytes → (fault : HeaderFault) → IsHeaderFault fingerprint bytes fault → ⊥
has_no_fault fingerprint bytes name long same (rest, is) = by name.compaction (rest, begins)
  where
    begins : bytes ≡ header sha256 (name_of fingerprint name.compaction) ++ rest
    begins = is ∙ ap (λ (f : List ℕ). header sha256 (name_of f name.compaction) ++ rest) same

    of : (compaction : Option Compaction) → StartsWith (header sha256 (name_of fingerprint compaction)) bytes → StartsOfMap fingerprint bytes
    of compaction front = (journal_name fingerprint compaction, refl, front)

    by : (compaction : Option Compaction) → StartsWith (header sha256 (name_of fingerprint compaction)) bytes → (fault : HeaderFault) → IsHeaderFault fingerprint bytes fault → ⊥
    by None (rest, is) header_fault.NotAJournal none = none (inl (fingerprint ++ rest, is ∙ plain_rest sha256 fingerprint rest long))
    by None (rest, is) header_fault.EarlierForm (more, earlier) = not_earlier (fingerprint ++ rest) more (sym (is ∙ plain_rest sha256 fingerprint rest long) ∙ earlier)
    by None (rest, is) header_fault.Damaged ((more, compacted), none) = two_signatures (fingerprint ++ rest) more (sym (is ∙ plain_rest sha256 fingerprint rest long) ∙ compacted)
    by None front header_fault.OtherMap (signed, none) = none (of None front)
    by (Some c) (rest, is) header_fault.NotAJournal none = none (inr (inr (_, is ∙ compacted_rest sha256 (name_of fingerprint (Some c)) rest (length-name fingerprint c long))))
    by (Some c) (rest, is) header_fault.EarlierForm (more, earlier) =
        compacted_not_earlier _ more (sym (is ∙ compacted_rest sha256 (name_of fingerprint (Some c)) rest (length-name fingerprint c long)) ∙ earlier)
    by (Some c) (rest, is) header_fault.Damaged (signed, none) =
        let name = name_of fingerprint (Some c) in
        none (starts_sealed bytes (name ++ (sha256 name ++ rest)) name rest (is ∙ compacted_rest sha256 name rest (length-name fingerprint c long)) (length-name fingerprint c long) refl)
    by (Some c) front header_fault.OtherMap (signed, none) = none (of (Some c) front)
