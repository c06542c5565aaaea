use Rattle.std.proofs.Common.{◌≡◌, ℕ, ◌++◌, ◌+◌, length, take, drop, sym, ◌∙◌, ap, length-append, subst, rules}
use Rattle.sha2.specs.Sha256.{sha256}
use Rattle.journal.specs.Header.{IsHeaderFault}
use Rattle.journal.specs.Name.{name_bytes}
use Rattle.journal.specs.Record.{header}
use Rattle.journalfile.proofs.Headers.{begins_file, fault_of_file}
use Rattle.journalfile.proofs.header.read_header.Goals as goal

pub returns-in-Ok-clause-header : goal.returns-in-Ok-clause-header
returns-in-Ok-clause-header g c reliable =
    let file = g.L.Log.content c.args.log.now in
    let bytes = c.in_ok-bytes.bytes.items in
    let front = header sha256 (name_bytes c.in-Ok.name) in
    let read : bytes ≡ take 98 file = c.in_ok-bytes.ensures.bytes reliable ∙ ap (λ (n : ℕ). take 98 (drop n file)) c.requires.start in
    let is : bytes ≡ front ++ c.in-Ok.rest.now = sym c.as_slice.ensures.value ∙ c.in-Ok.ensures.journal in
    let long : length bytes ≡ length front + length c.in-Ok.rest.now = ap length is ∙ length-append front c.in-Ok.rest.now in
    begins_file file bytes front c.in-Ok.rest.now 98 c.go_to.new.self.position read is (search rules)

pub returns-clause-fault : goal.returns-clause-fault
returns-clause-fault g c reliable =
    let file = g.L.Log.content c.args.log.now in
    let bytes = c.in_ok-bytes.bytes.items in
    let long : length c.args.fingerprint.now ≡ 32 = search rules in
    let read : bytes ≡ take 98 file = c.in_ok-bytes.ensures.bytes reliable ∙ ap (λ (n : ℕ). take 98 (drop n file)) c.requires.start in (
      fault_of_file file bytes read c.args.fingerprint.now long c.in-Err.fault (subst (λ l. IsHeaderFault c.args.fingerprint.now l c.in-Err.fault) c.as_slice.ensures.value c.in-Err.ensures.fault),
      (c.in_ok-bytes.ensures.read reliable).same,
    )
