use Rattle.std.proofs.Common.{arith, ap, length, subst, sym}
use Rattle.std.specs.Prelude.{All}
use Rattle.std.specs.Str.Lines.{lines}
use Rattle.mapdefs.specs.FontLimits.{IsGlyphWithin}
use Rattle.bdffont.proofs.Firsts.{firsts-all}
use Rattle.bdffont.proofs.Within.{file-good}
use Rattle.bdffont.proofs.file.read_within.Goals as goal

pub font_of-requires-clause-bounds : goal.font_of-requires-clause-bounds
font_of-requires-clause-bounds c = (file-good c.args.most 1 (lines c.args.bytes.now) c.in_ok-file.file c.in_ok-file.ensures.file).bounds

pub font_of-requires-clause-count : goal.font_of-requires-clause-count
font_of-requires-clause-count c =
    let good = file-good c.args.most 1 (lines c.args.bytes.now) c.in_ok-file.file c.in_ok-file.ensures.file in
    omega (arith, good.count, ap length c.into_vec.ensures, c.in_ok-glyphs.ensures.fewer)

pub font_of-requires-clause-each : goal.font_of-requires-clause-each
font_of-requires-clause-each c =
    let good = file-good c.args.most 1 (lines c.args.bytes.now) c.in_ok-file.file c.in_ok-file.ensures.file in
    let side = c.in_ok-file.file.side in
    firsts-all (IsGlyphWithin side) c.into_vec.result.items c.in_ok-glyphs.glyphs.items c.in_ok-glyphs.ensures.firsts (subst (All (IsGlyphWithin side)) (sym c.into_vec.ensures) good.each)
