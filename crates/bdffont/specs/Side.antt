-- How far the boxes of a font reach (docs/SERVICE.md, "Limits").
use Rattle.std.specs.Prelude.{ℕ, max, List, unsigned_abs}
use Rattle.std.specs.List.{fold}
use Rattle.mapdefs.specs.declared.font.BitmapBox.{BitmapBox}
use Rattle.mapdefs.specs.declared.font.Glyph.{Glyph}

-- the greatest of a box's sides, and of the sizes of its offsets
abbrev pub box_side : BitmapBox → ℕ
box_side b = max (max b.width b.height) (max (unsigned_abs b.xoff) (unsigned_abs b.yoff))

-- the greatest of a side, and of those of some glyphs' boxes
abbrev pub with_sides : ℕ → List Glyph → ℕ
with_sides side glyphs = fold (λ most (glyph : Glyph). max most (box_side glyph.bounds)) side glyphs

-- the greatest side or offset of a font's box and of its glyphs
abbrev pub side_of : BitmapBox → List Glyph → ℕ
side_of bounds glyphs = with_sides (box_side bounds) glyphs
