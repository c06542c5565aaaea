use Rattle.std.proofs.Common.{arith}
use Rattle.std.proofs.lemmas.List.{length-map}
use Rattle.mapparse.proofs.TableList.{zip-at_most}
use Rattle.mapparse.proofs.Within.{layer_symbols}
use Rattle.mapparse.proofs.mapping.map_with.Goals as goal

pub new-requires : goal.new-requires
new-requires c = record {
  extent = c.area_of.ensures.limits;
  symbol_count = rw c.in_ok-named.ensures c.requires.symbols;
  layer_count = rw (c.in_ok-layers.ensures, length-map) (omega (arith, zip-at_most c.into_vec.result.items c.into_vec-2.result.items, c.into_vec.ensures.limit));
  symbols = rw c.in_ok-layers.ensures (∣ layer_symbols c.in_ok-named.named _ ∣₁);
}
