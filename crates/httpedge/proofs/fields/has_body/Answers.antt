use Rattle.std.proofs.Common.{sym}
use Rattle.httpedge.specs.Fields.{says_body}
use Rattle.httpedge.proofs.Parts.{field-at}
use Rattle.httpedge.proofs.fields.has_body.Goals as goal

pub returns-then-says_body : goal.returns-then-says_body
returns-then-says_body c =
    sym (field-at says_body c.args.bytes.now c.args.fields.now c.loop-field.field-index _ _ _ c.says_body.result c.loop-field-test.true c.of.ensures c.of-in-loop-field.ensures
    c.says_body.ensures c.if-says_body.true)
