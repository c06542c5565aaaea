use Rattle.std.proofs.Common.{◌≡◌, ◌∙◌, ◌+◌, ◌∷◌, ◌++◌, [], List, length, take, sym, ap, arith}
use Rattle.std.proofs.lemmas.List.{take_more}
use Rattle.std.proofs.lemmas.List.Elements.{All-nil}
use Rattle.mapdefs.specs.Change.{HasRoomFor}
use Rattle.mapdefs.specs.LayerLimits.{HasValues}
use Rattle.mapdefs.specs.declared.layer.LayerFields.{LayerFields}
use Rattle.layers.proofs.Rooms.{none-push, room-push}
use Rattle.layers.proofs.draft.none_beside.Goals as goal

pub loop-layer-preserved : goal.loop-layer-preserved
loop-layer-preserved c =
    let layers : List LayerFields = c.args.layers.now in
    let done : List LayerFields = take c.loop-layer.layer-index layers in
    let layer : LayerFields = c.layer-item.result in
    let next : take (c.loop-layer.layer-index + 1) layers ≡ done ++ layer ∷ [] =
    take_more layers c.loop-layer.layer-index layer c.loop-layer-test.true ∙ ap (λ l. done ++ l ∷ []) (sym c.layer-item.is) in
    let has : HasRoomFor [] layer = record {
      count = omega (arith, c.get-fields.ensures.limits.feature_count, ap (λ (l : LayerFields). length l.features) c.get-fields.ensures.value);
      values = All-nil (HasValues (length layer.items));
    } in
    rw (c.in_ok-push.ensures.items, c.new.ensures, next) (record {
      none = none-push c.loop-layer.more.items done layer c.loop-layer.invariant.room c.loop-layer.invariant.none;
      room = room-push c.loop-layer.more.items done [] layer c.loop-layer.invariant.room has;
    })
