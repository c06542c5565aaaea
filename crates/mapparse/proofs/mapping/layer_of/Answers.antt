use Rattle.std.proofs.Common.{length, length-append}
use Rattle.std.proofs.lemmas.List.{length-map}
use Rattle.std.proofs.lemmas.List.Elements.{All-append}
use Rattle.mapdefs.specs.LayerLimits.{HasValues}
use Rattle.mapparse.proofs.TableList.{room-fits}
use Rattle.mapparse.proofs.Within.{feature_values}
use Rattle.mapparse.proofs.mapping.layer_of.Goals as goal

pub new-requires : goal.new-requires
new-requires c = record {
  item_count = c.in_ok-items.ensures.item_count;
  class_count = c.in_ok-classes.ensures.limit;
  feature_count = rw (c.in_ok-items.ensures.features, length-append, length-map) (room-fits c.args.tree c.args.table c.in_ok-items.ensures.given c.requires);
  tolerance = c.in_ok-layer.ensures.limit;
  values = rw c.in_ok-items.ensures.features (∣ All-append (HasValues (length c.in_ok-items.items)) _ _ (feature_values _ _) c.in_ok-items.ensures.rows ∣₁);
}
