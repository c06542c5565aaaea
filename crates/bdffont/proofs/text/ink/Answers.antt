use Rattle.std.proofs.Common.{◌≡◌, length, sym, ◌∙◌, ap, arith, to_z, of_z, w64}
use Rattle.std.proofs.lemmas.Int.{ints}
use Rattle.std.specs.Str.{chars}
use Rattle.bdffont.proofs.Inking.{ink-end, ink-skip, ink-here, ink-next}
use Rattle.bdffont.proofs.text.ink.Goals as goal

pub returns-then-inks_at : goal.returns-then-inks_at
returns-then-inks_at c =
    let same_i : to_z w64 (of_z w64 c.args.i) ≡ c.args.i = omega (arith, ints) in
    let same_j : to_z w64 (of_z w64 c.args.j) ≡ c.args.j = omega (arith, ints) in
    let found = rw c.as_slice-glyphs.ensures at c.in-Some-glyph_of.ensures in
    let left = c.corner_of-corner.ensures.left in
    let top = c.corner_of-corner.ensures.top in
    let inked = rw (left, top) at c.inks_at.ensures in
    let here = ink-here c.get-fields.result.now c.args.at _ _ c.loop-character.pen (chars c.loop-character.rest.now) c.in-Some.character (chars c.in-Some.after.now) c.in-Some.ensures.chars
    c.in-Some-glyph_of.glyph.now found (sym inked ∙ c.if-inks_at.true) in
    let same = sym here ∙ c.loop-character.invariant.same in
    rw (← c.get-fields.ensures.value) (rw (same_i, same_j) at same)

pub loop-character-preserved-else-inks_at : goal.loop-character-preserved-else-inks_at
loop-character-preserved-else-inks_at c =
    let found = rw c.as_slice-glyphs.ensures at c.in-Some-glyph_of.ensures in
    let left = c.corner_of-corner.ensures.left in
    let top = c.corner_of-corner.ensures.top in
    let inked = rw (left, top) at c.inks_at.ensures in
    record {
      same = rw c.from-pen.ensures (sym (ink-next c.get-fields.result.now c.args.at _ _ c.loop-character.pen (chars c.loop-character.rest.now) c.in-Some.character (chars c.in-Some.after.now) c.in-Some.ensures.chars
          c.in-Some-glyph_of.glyph.now found (sym inked ∙ c.if-inks_at.false)) ∙ c.loop-character.invariant.same);
      room = omega (arith, ap length c.in-Some.ensures.chars);
      utf8 = c.in-Some.ensures.utf8;
    }

pub loop-character-preserved : goal.loop-character-preserved
loop-character-preserved c =
    let none = rw c.as_slice-glyphs.ensures at c.in_default-glyph_of.ensures in
    record {
      same = sym (ink-skip c.get-fields.result.now c.args.at _ _ c.loop-character.pen (chars c.loop-character.rest.now) c.in-Some.character (chars c.in-Some.after.now) c.in-Some.ensures.chars none)
          ∙ c.loop-character.invariant.same;
      room = omega (arith, ap length c.in-Some.ensures.chars);
      utf8 = c.in-Some.ensures.utf8;
    }

pub returns : goal.returns
returns c =
    let same_i : to_z w64 (of_z w64 c.args.i) ≡ c.args.i = omega (arith, ints) in
    let same_j : to_z w64 (of_z w64 c.args.j) ≡ c.args.j = omega (arith, ints) in
    let same = sym (ink-end c.get-fields.result.now c.args.at _ _ c.loop-character.pen (chars c.loop-character.rest.now) c.in_default.ensures.chars) ∙ c.loop-character.invariant.same in
    rw (← c.get-fields.ensures.value) (rw (same_i, same_j) at same)
