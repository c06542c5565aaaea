-- What a map may hold (docs/MAPFILE.md, "Values", "Symbols" and "Limits").
use Rattle.std.specs.Prelude.{ℕ, ◌<◌, ◌≤◌, length, All, IfSome}
use Rattle.geom.specs.World.{IsExtent}
use Rattle.mapdefs.specs.declared.map.MapFields.{MapFields}
use Rattle.mapdefs.specs.declared.layer.LayerFields.{LayerFields}
use Rattle.mapdefs.specs.declared.class.ClassFields.{ClassFields}
use Rattle.mapdefs.specs.declared.style.StyleFields.{StyleFields}
use Rattle.mapdefs.specs.declared.limits.TheConstants.{MAX_LAYERS, MAX_SYMBOLS}

-- a symbol that a style names by its index is one of so many
abbrev pub NamesSymbolOf : ℕ → StyleFields → Type 0
NamesSymbolOf count style = IfSome style.symbol (λ index. index < count)

-- so do all styles of a class
abbrev pub ClassNamesSymbolsOf : ℕ → ClassFields → Type 0
ClassNamesSymbolsOf count class = All (NamesSymbolOf count) class.styles

-- so do all styles of a layer
abbrev pub LayerNamesSymbolsOf : ℕ → LayerFields → Type 0
LayerNamesSymbolsOf count layer = All (ClassNamesSymbolsOf count) layer.classes

-- the extent has an area, there are not too many symbols and layers, and each symbol that a style names is there
pub record IsMapWithinLimits (m : MapFields) : Type 0 where
  pub extent : IsExtent m.extent
  pub symbol_count : length m.symbols ≤ MAX_SYMBOLS
  pub layer_count : length m.layers ≤ MAX_LAYERS
  pub symbols : ∥ All (LayerNamesSymbolsOf (length m.symbols)) m.layers ∥₁
