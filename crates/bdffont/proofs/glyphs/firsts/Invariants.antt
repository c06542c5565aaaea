use Rattle.std.proofs.Common.{◌≡◌, ◌++◌, None}
use Rattle.std.specs.Vec.Iter.{into_iter_items}
use Rattle.bdffont.proofs.Firsts.{kept_from}
use Rattle.bdffont.proofs.glyphs.firsts.Given as goal

abbrev pub invariant-loop-glyph : goal.invariant-loop-glyph
invariant-loop-glyph l = l.kept.items ++ kept_from l.last (into_iter_items l.glyph-iterator) ≡ kept_from None l.fn.glyphs.items
