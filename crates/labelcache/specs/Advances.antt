-- The advances of a font's first characters: the account of the code.
use Rattle.std.specs.Prelude.{◌≡◌, ℕ, List, Some, slice_get}
use Rattle.mapdefs.specs.declared.font.FontFields.{FontFields}
use Rattle.bdffont.specs.Ink.{advance_of}

-- the numbers say how far the pen advances after each of the first characters, from 0 on
abbrev pub AreAdvances : FontFields → List ℕ → Type 0
AreAdvances font advances = (k advance : ℕ) → slice_get advances k ≡ Some advance → advance ≡ advance_of font.glyphs k
