use Rattle.std.proofs.Common.{sym}
use Rattle.httpedge.specs.Fields.{says_close}
use Rattle.httpedge.proofs.Parts.{field-at}
use Rattle.httpedge.proofs.fields.has_closing.Goals as goal

pub returns-then-says_close : goal.returns-then-says_close
returns-then-says_close c =
    sym (field-at says_close c.args.bytes.now c.args.fields.now c.loop-field.field-index _ _ _ c.says_close.result c.loop-field-test.true c.of.ensures c.of-in-loop-field.ensures
    c.says_close.ensures c.if-says_close.true)
