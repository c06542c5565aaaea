-- What is made from a tree is within the limits.
use Rattle.std.proofs.Common.{ℕ, suc, ◌<◌, Bool, true, false, List, [], ◌∷◌, length, map, arith}
use Rattle.std.specs.Prelude.{Option, None, Some, option_map, IfSome, if◌then◌else◌}
use Rattle.std.specs.Option.{option_or}
use Rattle.csvpoints.specs.declared.table.TableFields.{TableFields}
use Rattle.mapdefs.specs.Name.{is_same_name}
use Rattle.mapdefs.specs.declared.symbol.Symbol.{Symbol}
use Rattle.mapwords.specs.declared.named.Named.{Named}
use Rattle.mapparse.specs.Symbols.{last_named, symbol_index}
use Rattle.std.specs.List.{All}
use Rattle.std.proofs.lemmas.List.Elements.{All-map}
use Rattle.mapdefs.specs.LayerLimits.{HasValues}
use Rattle.mapdefs.specs.MapLimits.{NamesSymbolOf, ClassNamesSymbolsOf, LayerNamesSymbolsOf}
use Rattle.mapwords.specs.declared.value.Value.{Value}
use Rattle.maptree.specs.declared.tree.ClassTree.{ClassTree}
use Rattle.maptree.specs.declared.tree.FeatureTree.{FeatureTree}
use Rattle.maptree.specs.declared.tree.LayerTree.{LayerTree}
use Rattle.mapparse.specs.declared.named_parts.NamedParts.{NamedParts}
use Rattle.mapparse.specs.Mapping.{style_of, class_of, feature_of, layer_of}
use Rattle.mapparse.proofs.Padding.{length-values}

-- each feature has a value for each item
pub feature_values : (count : ℕ) (features : List FeatureTree) → All (HasValues count) (map (feature_of count) features)
feature_values count features = All-map (HasValues count) (feature_of count) features (λ k feature below. length-values count _)

-- each style names a symbol that is there
module _ (named : NamedParts) where
  last-within : (name : List ℕ) (some : List Symbol) → IfSome (last_named name some) (λ index. index < length some)
  last-within name [] = tt
  last-within name (symbol ∷ after) = of (last_named name after) (is_same_name symbol.name name) (last-within name after)
    where
      of : (later : Option ℕ) (same : Bool) → IfSome later (λ index. index < length after) →
          IfSome (option_or (option_map suc later) (if same then Some 0 else None)) (λ index. index < suc (length after))
      of (Some index) same below = omega (arith, below)
      of None true below = omega arith
      of None false below = tt

  named-within : (symbol : Option Named) → IfSome (symbol_index named.symbols symbol) (λ index. index < length named.symbols)
  named-within None = tt
  named-within (Some symbol) = last-within symbol.text named.symbols

  pub style_symbols : (styles : List (List Value)) → All (NamesSymbolOf (length named.symbols)) (map (style_of named) styles)
  style_symbols styles = All-map (NamesSymbolOf (length named.symbols)) (style_of named) styles (λ k style below. named-within _)

  pub class_symbols : (classes : List ClassTree) → All (ClassNamesSymbolsOf (length named.symbols)) (map (class_of named) classes)
  class_symbols classes =
      All-map (ClassNamesSymbolsOf (length named.symbols)) (class_of named) classes (λ k class below. style_symbols _)

  pub layer_symbols : (layers : List (LayerTree × Option TableFields)) → All (LayerNamesSymbolsOf (length named.symbols)) (map (layer_of named) layers)
  layer_symbols layers =
      All-map (LayerNamesSymbolsOf (length named.symbols)) (layer_of named) layers (λ k layer below. class_symbols _)
