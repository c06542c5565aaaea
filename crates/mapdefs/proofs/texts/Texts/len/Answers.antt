use Rattle.std.proofs.Common.{string_bytes, arith}
use Rattle.mapdefs.proofs.TextEnds.{texts-length}
use Rattle.mapdefs.proofs.texts.Texts.len.Goals as goal

pub returns : goal.returns
returns c =
    let fields = c.self.inside in
    rw (← c.self.view_is) (omega (arith, c.len.ensures, fields.ends.ok.0, texts-length (string_bytes fields.bytes) 0 fields.ends.items))
