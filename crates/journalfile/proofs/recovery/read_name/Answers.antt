use Rattle.std.proofs.Common.{◌≡◌, length, drop, ◌∙◌, sym, ap, subst, rules}
use Rattle.journalfile.specs.Recovery.{IsNameFault}
use Rattle.journalfile.proofs.Headers.{begins_with, same_name, transient_name}
use Rattle.journalfile.proofs.recovery.read_name.Goals as goal

pub returns-in-Ok-clause-opens : goal.returns-in-Ok-clause-opens
returns-in-Ok-clause-opens g c reliable name batches of_map bounded stands =
    let file = g.L.Log.content c.args.log.now in
    let long : length c.args.fingerprint.now ≡ 32 = search rules in
    let long_name : length name.fingerprint ≡ 32 = ap length of_map ∙ long in
    let long_found : length c.in-Ok.name.fingerprint ≡ 32 = ap length c.in-Ok.ensures.of_map ∙ long in
    same_name c.in-Ok.name name file long_found long_name c.in-Ok.ensures.bounded bounded (drop c.read_header.new.frames.position file, c.in-Ok.ensures.header reliable) (begins_with name file batches stands)

pub returns-clause-opens : goal.returns-clause-opens
returns-clause-opens g c reliable name batches of_map bounded stands =
    let long : length c.args.fingerprint.now ≡ 32 = search rules in
    let content = g.L.Log.content in
    transient_name content c.args.log.now c.read_header.new.log name (ap length of_map ∙ long) (begins_with name (content c.args.log.now) batches stands) c.in-Err.fault
    (subst (λ l. IsNameFault l content c.args.log.now c.read_header.new.log c.in-Err.fault) (sym of_map) (c.in-Err.ensures.fault reliable))
