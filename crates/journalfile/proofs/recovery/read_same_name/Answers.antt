use Rattle.std.proofs.Common.{◌≡◌, length, drop, rules}
use Rattle.std.proofs.lemmas.Bool.{iff_false}
use Rattle.journalfile.proofs.Headers.{name_fault, same_name}
use Rattle.journalfile.proofs.recovery.read_same_name.Goals as goal

pub returns-else-is_same-clause-fault : goal.returns-else-is_same-clause-fault
returns-else-is_same-clause-fault g c reliable first = (
  λ begins.
      let name = c.args.name.now in
      let file = g.L.Log.content c.args.log.now in
      let long : length name.fingerprint ≡ 32 = search rules in
      let long_found : length c.in-Ok.found.fingerprint ≡ 32 = search rules in
      iff_false c.is_same.ensures.same c.if-is_same.false
      (same_name name c.in-Ok.found file long long_found c.is_same.ensures.bounded c.in-Ok.ensures.bounded begins (drop c.read_header.new.frames.position file, c.in-Ok.ensures.header reliable)),
  (c.in-Ok.ensures.read reliable).same,
)

pub returns-in-Err-clause-fault : goal.returns-in-Err-clause-fault
returns-in-Err-clause-fault g c reliable first =
    name_fault g.L.Log.content c.args.name.now c.args.log.now c.read_header.new.log first c.in-Err.fault (c.in-Err.ensures.fault reliable)
