-- The sizes of fonts (Glyph Bitmap Distribution Format 2.1; docs/SERVICE.md, "Limits").
use Rattle.std.specs.Prelude.{◌≡◌, ℕ, ◌*◌, ◌<◌, ◌≤◌, List, length, All}
use Rattle.std.specs.List.{AllPairs}
use Rattle.geom.specs.Range.{IsWithin}
use Rattle.mapdefs.specs.declared.font.BitmapBox.{BitmapBox}
use Rattle.mapdefs.specs.declared.font.Glyph.{Glyph}
use Rattle.mapdefs.specs.declared.font.FontFields.{FontFields}
use Rattle.mapdefs.specs.declared.limits.TheConstants.{MAX_GLYPHS}

-- sides and offsets are at most so many pixels
pub record IsBoxWithin (side : ℕ) (b : BitmapBox) : Type 0 where
  pub columns : b.width ≤ side
  pub rows : b.height ≤ side
  pub right : IsWithin side b.xoff
  pub up : IsWithin side b.yoff

-- a glyph has a truth value for each pixel of its box
pub record IsGlyphWithin (side : ℕ) (g : Glyph) : Type 0 where
  pub bounds : IsBoxWithin side g.bounds
  pub area : length g.rows ≡ g.bounds.width * g.bounds.height

-- the encoding of each glyph is below those of the glyphs after it
abbrev pub IsRising : List Glyph → Type 0
IsRising glyphs = AllPairs (λ a b. a.encoding < b.encoding) glyphs

-- the box and each glyph are within the font's side, there are not too many glyphs, and their encodings rise
pub record IsFontWithinLimits (f : FontFields) : Type 0 where
  pub bounds : IsBoxWithin f.side f.bounds
  pub count : length f.glyphs ≤ MAX_GLYPHS
  pub each : ∥ All (IsGlyphWithin f.side) f.glyphs ∥₁
  pub rising : IsRising f.glyphs
