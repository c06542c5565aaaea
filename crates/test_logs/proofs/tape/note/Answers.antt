use Rattle.std.proofs.Common.{◌≡◌, rules, refl}
use Rattle.test_logs.proofs.tape.note.Goals as goal

pub returns-clause-ok : goal.returns-clause-ok
returns-clause-ok c =
    let same : c.in_ok-bytes.bytes.items ≡ c.args.bytes.now.items = search rules in
    (record { bytes = c.in_ok-bytes.bytes; synced = c.args.synced }, same, refl, c.in_ok-push.ensures.items)
