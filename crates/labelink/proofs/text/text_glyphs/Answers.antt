use Rattle.std.proofs.Common.{length, ◌∙◌, ap, arith}
use Rattle.std.proofs.lemmas.Int.{ints}
use Rattle.std.specs.Str.{chars}
use Rattle.labelink.proofs.Laying.{lay-next, laid-more, same-place}
use Rattle.labelink.proofs.text.text_glyphs.Goals as goal

pub loop-character-preserved-in_ok-push : goal.loop-character-preserved-in_ok-push
loop-character-preserved-in_ok-push c =
    let found = rw c.as_slice-glyphs.ensures at c.in-Some-glyph_of.ensures in
    let lay = lay-next c.get-fields.result.now c.args.at c.loop-character.pen (chars c.loop-character.rest.now) c.in-Some.character (chars c.in-Some.after.now) c.in-Some.ensures.chars
    c.in-Some-glyph_of.glyph.now found in
    let same = rw lay at c.loop-character.invariant.same in
    let left = c.corner_of-corner.ensures.left in
    let top = c.corner_of-corner.ensures.top in
    let columns = c.corner_of-corner.ensures.columns in
    let rows = c.corner_of-corner.ensures.rows in
    let place = c.new.ensures ∙ same-place c.in-Some-glyph_of.glyph.now _ _ _ _ (omega (arith, ints, left, columns)) (omega (arith, ints, top, rows)) in
    record {
      same = rw c.from-pen.ensures (laid-more _ _ _ _ _ _ c.in_ok-push.ensures.items place same);
      room = omega (arith, ap length c.in-Some.ensures.chars);
      utf8 = c.in-Some.ensures.utf8;
    }
