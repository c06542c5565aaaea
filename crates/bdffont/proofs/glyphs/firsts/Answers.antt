use Rattle.std.proofs.Common.{◌≡◌, length, arith}
use Rattle.std.specs.Vec.Iter.{into_iter_items}
use Rattle.bdffont.proofs.Firsts.{all-kept, kept-are_fewer}
use Rattle.bdffont.proofs.glyphs.firsts.Goals as goal

pub returns-clause-firsts : goal.returns-clause-firsts
returns-clause-firsts c =
    let none : length (into_iter_items c.loop-glyph.glyph-iterator) ≡ 0 = omega (arith, c.loop-glyph.glyph-iterator.rest.ok, c.in-None.ensures.steps.0) in
    all-kept _ _ (into_iter_items c.loop-glyph.glyph-iterator) _ c.requires c.loop-glyph.invariant none

pub returns-clause-fewer : goal.returns-clause-fewer
returns-clause-fewer c = kept-are_fewer c.args.glyphs.items _ (into_iter_items c.loop-glyph.glyph-iterator) c.loop-glyph.last c.loop-glyph.invariant
