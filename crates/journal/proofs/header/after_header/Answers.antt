use Rattle.std.proofs.Common.{inl, inr, ◌++◌, rules}
use Rattle.sha2.specs.Sha256.{sha256}
use Rattle.journal.proofs.Headers.{other_plain, other_compacted, starts_sealed, unsealed}
use Rattle.journal.proofs.header.after_header.Goals as goal

pub returns-in-None-clause-fault : goal.returns-in-None-clause-fault
returns-in-None-clause-fault c = (
  inl (c.in-Some.rest.now, c.in-Some.ensures),
  other_plain c.args.fingerprint.now c.args.bytes.now (search rules) c.in-Some.rest.now c.in-Some.ensures c.in-None.ensures,
)

pub returns-in_default-sealed_name-clause-fault : goal.returns-in_default-sealed_name-clause-fault
returns-in_default-sealed_name-clause-fault c =
    let after = c.in-Some-after_compacted_signature.rest.now in
    ((after, c.in-Some-after_compacted_signature.ensures), unsealed c.args.bytes.now after c.in-Some-after_compacted_signature.ensures c.in_default-sealed_name.ensures)

pub returns-in_default-compaction_in-clause-fault : goal.returns-in_default-compaction_in-clause-fault
returns-in_default-compaction_in-clause-fault c =
    let bytes = c.args.bytes.now in
    let after = c.in-Some-after_compacted_signature.rest.now in
    let is = c.in-Some-after_compacted_signature.ensures in
    let name = c.in-Some-sealed_name.name.now in
    let rest = c.in-Some-sealed_name.rest.now in
    let sealed = c.in-Some-sealed_name.ensures in (
      inr (starts_sealed bytes after name rest is sealed.0 sealed.1),
      other_compacted c.args.fingerprint.now bytes (search rules) name after (sha256 name ++ rest) is sealed.0 sealed.1 c.in_default-compaction_in.ensures,
    )
