use Rattle.std.proofs.Common.{◌≡◌, ◌∙◌, ◌+◌, ◌<◌, ◌≤◌, List, [], length, get_or, map, ◌++◌, true, false, Some, sym, ap, arith}
use Rattle.std.proofs.lemmas.Slice.Zip.{AllZip-long}
use Rattle.std.specs.List.{slice_get}
use Rattle.mapdefs.specs.Change.{HasRoomFor}
use Rattle.mapdefs.specs.declared.feature.FeatureFields.{FeatureFields}
use Rattle.mapdefs.specs.declared.layer.LayerFields.{LayerFields}
use Rattle.mapdefs.specs.declared.limits.TheConstants.{MAX_FEATURES}
use Rattle.mapdefs.specs.declared.map.MapFields.{MapFields}
use Rattle.csvpoints.specs.declared.table.TableFields.{TableFields}
use Rattle.layers.specs.Change.{fitted, is_of_points}
use Rattle.layers.proofs.Drafting.{length-extended}
use Rattle.layers.proofs.Rooms.{room-at, room-set}
use Rattle.layers.proofs.Waiting.{has-room, layer-there, waits-appended, waits-full, waits-not, whatever-none}
use Rattle.layers.proofs.draft.Draft.append_at.Goals as goal

pub offset_bounds-as_slice-index : goal.offset_bounds-as_slice-index
offset_bounds-as_slice-index c =
    let m : MapFields = c.self.inside.layers in
    let more : List (List FeatureFields) = c.self.inside.more.items in
    let within : c.args.index < length m.layers = omega (arith, rw (← c.self.view_is) at c.requires, length-extended more m.layers) in
    let slice : c.as_slice.result.now ≡ m.layers = c.as_slice.ensures ∙ ap (λ (m : MapFields). m.layers) (c.get.ensures.value ∙ c.map.ensures) in
    omega (arith, within, c.as_slice.type_inv, ap length slice)

pub bounds-as_slice-index : goal.bounds-as_slice-index
bounds-as_slice-index c =
    let m : MapFields = c.self.inside.layers in
    let more : List (List FeatureFields) = c.self.inside.more.items in
    let within : c.args.index < length m.layers = omega (arith, rw (← c.self.view_is) at c.requires, length-extended more m.layers) in
    let slice : c.as_slice.result.now ≡ m.layers = c.as_slice.ensures ∙ ap (λ (m : MapFields). m.layers) (c.get.ensures.value ∙ c.map.ensures) in
    omega (arith, within, ap length slice)

pub returns-then-not-is_of_points-clause-refused : goal.returns-then-not-is_of_points-clause-refused
returns-then-not-is_of_points-clause-refused c =
    let m : MapFields = c.self.inside.layers in
    let more : List (List FeatureFields) = c.self.inside.more.items in
    let within : c.args.index < length m.layers = omega (arith, rw (← c.self.view_is) at c.requires, length-extended more m.layers) in
    let slice : c.as_slice.result.now ≡ m.layers = c.as_slice.ensures ∙ ap (λ (m : MapFields). m.layers) (c.get.ensures.value ∙ c.map.ensures) in
    let layer : LayerFields = c.index-as_slice-index.result in
    let there : slice_get m.layers c.args.index ≡ Some layer = layer-there m.layers c.as_slice.result.now c.args.index layer slice within c.index-as_slice-index.is in
    let same : c.get-layer.result.now ≡ layer = c.get-layer.ensures.value in
    let line : is_of_points layer.kind ≡ false = sym (ap (λ (l : LayerFields). is_of_points l.kind) same) ∙ (sym c.is_of_points.ensures ∙ c.if-not-is_of_points.true) in
    rw (← c.self.view_is) (waits-not more m c.args.index layer c.args.table there line)

pub index-requires : goal.index-requires
index-requires c =
    let m : MapFields = c.self.inside.layers in
    let more : List (List FeatureFields) = c.self.inside.more.items in
    let within : c.args.index < length m.layers = omega (arith, rw (← c.self.view_is) at c.requires, length-extended more m.layers) in
    let slice : c.as_slice.result.now ≡ m.layers = c.as_slice.ensures ∙ ap (λ (m : MapFields). m.layers) (c.get.ensures.value ∙ c.map.ensures) in
    let beside : c.args.index < length more = omega (arith, within, AllZip-long HasRoomFor more m.layers c.self.invariant) in
    omega (arith, beside, c.self.inside.more.ok)

pub overflow_add-count : goal.overflow_add-count
overflow_add-count c =
    let m : MapFields = c.self.inside.layers in
    let more : List (List FeatureFields) = c.self.inside.more.items in
    let within : c.args.index < length m.layers = omega (arith, rw (← c.self.view_is) at c.requires, length-extended more m.layers) in
    let slice : c.as_slice.result.now ≡ m.layers = c.as_slice.ensures ∙ ap (λ (m : MapFields). m.layers) (c.get.ensures.value ∙ c.map.ensures) in
    let layer : LayerFields = c.index-as_slice-index.result in
    let there : slice_get m.layers c.args.index ≡ Some layer = layer-there m.layers c.as_slice.result.now c.args.index layer slice within c.index-as_slice-index.is in
    let beside : c.args.index < length more = omega (arith, within, AllZip-long HasRoomFor more m.layers c.self.invariant) in
    let same : c.get-layer.result.now ≡ layer = c.get-layer.ensures.value in
    let waiting : List FeatureFields = get_or more c.args.index [] in
    let is : c.index.result.now ≡ waiting = whatever-none more c.args.index c.index.result.now [] beside c.index.ensures in
    let has : HasRoomFor waiting layer = room-at more m.layers c.args.index layer c.self.invariant there in
    let own : c.len.result ≡ length layer.features = c.len.ensures ∙ ap (λ (l : LayerFields). length l.features) same in
    let others : c.len-2.result ≡ length waiting = c.len-2.ensures ∙ ap length is in
    omega (arith, own, others, has.count)

pub overflow_sub-count : goal.overflow_sub-count
overflow_sub-count c =
    let m : MapFields = c.self.inside.layers in
    let more : List (List FeatureFields) = c.self.inside.more.items in
    let within : c.args.index < length m.layers = omega (arith, rw (← c.self.view_is) at c.requires, length-extended more m.layers) in
    let slice : c.as_slice.result.now ≡ m.layers = c.as_slice.ensures ∙ ap (λ (m : MapFields). m.layers) (c.get.ensures.value ∙ c.map.ensures) in
    let layer : LayerFields = c.index-as_slice-index.result in
    let there : slice_get m.layers c.args.index ≡ Some layer = layer-there m.layers c.as_slice.result.now c.args.index layer slice within c.index-as_slice-index.is in
    let beside : c.args.index < length more = omega (arith, within, AllZip-long HasRoomFor more m.layers c.self.invariant) in
    let same : c.get-layer.result.now ≡ layer = c.get-layer.ensures.value in
    let waiting : List FeatureFields = get_or more c.args.index [] in
    let is : c.index.result.now ≡ waiting = whatever-none more c.args.index c.index.result.now [] beside c.index.ensures in
    let has : HasRoomFor waiting layer = room-at more m.layers c.args.index layer c.self.invariant there in
    let own : c.len.result ≡ length layer.features = c.len.ensures ∙ ap (λ (l : LayerFields). length l.features) same in
    let others : c.len-2.result ≡ length waiting = c.len-2.ensures ∙ ap length is in
    omega (arith, own, others, has.count)

pub returns-then-len-count-clause-refused : goal.returns-then-len-count-clause-refused
returns-then-len-count-clause-refused c =
    let m : MapFields = c.self.inside.layers in
    let more : List (List FeatureFields) = c.self.inside.more.items in
    let within : c.args.index < length m.layers = omega (arith, rw (← c.self.view_is) at c.requires, length-extended more m.layers) in
    let slice : c.as_slice.result.now ≡ m.layers = c.as_slice.ensures ∙ ap (λ (m : MapFields). m.layers) (c.get.ensures.value ∙ c.map.ensures) in
    let layer : LayerFields = c.index-as_slice-index.result in
    let there : slice_get m.layers c.args.index ≡ Some layer = layer-there m.layers c.as_slice.result.now c.args.index layer slice within c.index-as_slice-index.is in
    let beside : c.args.index < length more = omega (arith, within, AllZip-long HasRoomFor more m.layers c.self.invariant) in
    let same : c.get-layer.result.now ≡ layer = c.get-layer.ensures.value in
    let points : is_of_points layer.kind ≡ true = sym (ap (λ (l : LayerFields). is_of_points l.kind) same) ∙ (sym c.is_of_points.ensures ∙ c.if-not-is_of_points.false) in
    let waiting : List FeatureFields = get_or more c.args.index [] in
    let is : c.index.result.now ≡ waiting = whatever-none more c.args.index c.index.result.now [] beside c.index.ensures in
    let has : HasRoomFor waiting layer = room-at more m.layers c.args.index layer c.self.invariant there in
    let own : c.len.result ≡ length layer.features = c.len.ensures ∙ ap (λ (l : LayerFields). length l.features) same in
    let others : c.len-2.result ≡ length waiting = c.len-2.ensures ∙ ap length is in
    let rows : c.len-3.result ≡ length c.args.table.features = c.len-3.ensures ∙ ap (λ (t : TableFields). length t.features) c.into_fields-columns.ensures.value in
    rw (← c.self.view_is) (waits-full more m c.args.index layer c.args.table there points (omega (arith, own, others, rows, has.count, c.if-len-count.true)))

pub index_mut-waiting-requires : goal.index_mut-waiting-requires
index_mut-waiting-requires c =
    let m : MapFields = c.self.inside.layers in
    let more : List (List FeatureFields) = c.self.inside.more.items in
    let within : c.args.index < length m.layers = omega (arith, rw (← c.self.view_is) at c.requires, length-extended more m.layers) in
    let slice : c.as_slice.result.now ≡ m.layers = c.as_slice.ensures ∙ ap (λ (m : MapFields). m.layers) (c.get.ensures.value ∙ c.map.ensures) in
    let beside : c.args.index < length more = omega (arith, within, AllZip-long HasRoomFor more m.layers c.self.invariant) in
    omega (arith, beside, c.self.inside.more.ok)

pub invariant_of-self-2 : goal.invariant_of-self-2
invariant_of-self-2 c =
    let m : MapFields = c.self.inside.layers in
    let more : List (List FeatureFields) = c.self.inside.more.items in
    let within : c.args.index < length m.layers = omega (arith, rw (← c.self.view_is) at c.requires, length-extended more m.layers) in
    let slice : c.as_slice.result.now ≡ m.layers = c.as_slice.ensures ∙ ap (λ (m : MapFields). m.layers) (c.get.ensures.value ∙ c.map.ensures) in
    let layer : LayerFields = c.index-as_slice-index.result in
    let there : slice_get m.layers c.args.index ≡ Some layer = layer-there m.layers c.as_slice.result.now c.args.index layer slice within c.index-as_slice-index.is in
    let beside : c.args.index < length more = omega (arith, within, AllZip-long HasRoomFor more m.layers c.self.invariant) in
    let same : c.get-layer.result.now ≡ layer = c.get-layer.ensures.value in
    let points : is_of_points layer.kind ≡ true = sym (ap (λ (l : LayerFields). is_of_points l.kind) same) ∙ (sym c.is_of_points.ensures ∙ c.if-not-is_of_points.false) in
    let waiting : List FeatureFields = get_or more c.args.index [] in
    let is : c.index.result.now ≡ waiting = whatever-none more c.args.index c.index.result.now [] beside c.index.ensures in
    let has : HasRoomFor waiting layer = room-at more m.layers c.args.index layer c.self.invariant there in
    let own : c.len.result ≡ length layer.features = c.len.ensures ∙ ap (λ (l : LayerFields). length l.features) same in
    let others : c.len-2.result ≡ length waiting = c.len-2.ensures ∙ ap length is in
    let rows : c.len-3.result ≡ length c.args.table.features = c.len-3.ensures ∙ ap (λ (t : TableFields). length t.features) c.into_fields-columns.ensures.value in
    let now : c.index_mut-waiting.result.now ≡ waiting = whatever-none more c.args.index c.index_mut-waiting.result.now [] beside c.index_mut-waiting.ensures.value in
    let table = c.args.table in
    let items : c.as_slice-2.result.now ≡ layer.items = c.as_slice-2.ensures ∙ ap (λ (l : LayerFields). l.items) same in
    let columns : c.as_slice-3.result.now ≡ table.columns = c.as_slice-3.ensures ∙ ap (λ (t : TableFields). t.columns) c.into_fields-columns.ensures.value in
    let features : c.into_fields-columns.result.features ≡ table.features = ap (λ (t : TableFields). t.features) c.into_fields-columns.ensures.value in
    let made : c.in_ok-fitted.fitted ≡ map (fitted layer.items table.columns) table.features = rw (items, columns, features) at c.in_ok-fitted.ensures in
    let room : length layer.features + length waiting + length table.features ≤ MAX_FEATURES = omega (arith, own, others, rows, has.count, c.if-len-count.false) in
    let joined : c.append.new.self ≡ waiting ++ c.in_ok-fitted.fitted = c.in_ok-append.ensures.ok ∙ ap (λ (ws : List FeatureFields). ws ++ c.in_ok-fitted.fitted) now in
    rw joined (room-set more m.layers c.args.index layer (waiting ++ c.in_ok-fitted.fitted) c.self.invariant there
    (has-room waiting c.in_ok-fitted.fitted table.features layer table.columns has made room))

pub returns-clause-done : goal.returns-clause-done
returns-clause-done c =
    let m : MapFields = c.self.inside.layers in
    let more : List (List FeatureFields) = c.self.inside.more.items in
    let within : c.args.index < length m.layers = omega (arith, rw (← c.self.view_is) at c.requires, length-extended more m.layers) in
    let slice : c.as_slice.result.now ≡ m.layers = c.as_slice.ensures ∙ ap (λ (m : MapFields). m.layers) (c.get.ensures.value ∙ c.map.ensures) in
    let layer : LayerFields = c.index-as_slice-index.result in
    let there : slice_get m.layers c.args.index ≡ Some layer = layer-there m.layers c.as_slice.result.now c.args.index layer slice within c.index-as_slice-index.is in
    let beside : c.args.index < length more = omega (arith, within, AllZip-long HasRoomFor more m.layers c.self.invariant) in
    let same : c.get-layer.result.now ≡ layer = c.get-layer.ensures.value in
    let points : is_of_points layer.kind ≡ true = sym (ap (λ (l : LayerFields). is_of_points l.kind) same) ∙ (sym c.is_of_points.ensures ∙ c.if-not-is_of_points.false) in
    let waiting : List FeatureFields = get_or more c.args.index [] in
    let is : c.index.result.now ≡ waiting = whatever-none more c.args.index c.index.result.now [] beside c.index.ensures in
    let has : HasRoomFor waiting layer = room-at more m.layers c.args.index layer c.self.invariant there in
    let own : c.len.result ≡ length layer.features = c.len.ensures ∙ ap (λ (l : LayerFields). length l.features) same in
    let others : c.len-2.result ≡ length waiting = c.len-2.ensures ∙ ap length is in
    let rows : c.len-3.result ≡ length c.args.table.features = c.len-3.ensures ∙ ap (λ (t : TableFields). length t.features) c.into_fields-columns.ensures.value in
    let now : c.index_mut-waiting.result.now ≡ waiting = whatever-none more c.args.index c.index_mut-waiting.result.now [] beside c.index_mut-waiting.ensures.value in
    let table = c.args.table in
    let items : c.as_slice-2.result.now ≡ layer.items = c.as_slice-2.ensures ∙ ap (λ (l : LayerFields). l.items) same in
    let columns : c.as_slice-3.result.now ≡ table.columns = c.as_slice-3.ensures ∙ ap (λ (t : TableFields). t.columns) c.into_fields-columns.ensures.value in
    let features : c.into_fields-columns.result.features ≡ table.features = ap (λ (t : TableFields). t.features) c.into_fields-columns.ensures.value in
    let made : c.in_ok-fitted.fitted ≡ map (fitted layer.items table.columns) table.features = rw (items, columns, features) at c.in_ok-fitted.ensures in
    let room : length layer.features + length waiting + length table.features ≤ MAX_FEATURES = omega (arith, own, others, rows, has.count, c.if-len-count.false) in
    let joined : c.append.new.self ≡ waiting ++ c.in_ok-fitted.fitted = c.in_ok-append.ensures.ok ∙ ap (λ (ws : List FeatureFields). ws ++ c.in_ok-fitted.fitted) now in
    rw (← c.self.view_is, joined) (waits-appended more m c.args.index layer table c.in_ok-fitted.fitted there points beside room made)
