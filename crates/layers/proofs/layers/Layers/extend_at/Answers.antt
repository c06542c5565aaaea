use Rattle.std.proofs.Common.{◌≡◌, ◌∙◌, ◌<◌, length, get_or, map, sym, ap, arith}
use Rattle.std.proofs.lemmas.List.{length-map}
use Rattle.std.proofs.lemmas.Option.{get_or_from_slice_get, slice_get_within}
use Rattle.mapdefs.specs.Change.{CanTakeAt}
use Rattle.mapdefs.specs.declared.map.MapFields.{MapFields}
use Rattle.layers.specs.Boxes.{box_of, boxes_of}
use Rattle.layers.proofs.Appending.{boxes-extended, grid-at, taken, takes-nothing}
use Rattle.layers.proofs.layers.Layers.extend_at.Goals as goal

pub returns-then-len-eq0-clause-ok : goal.returns-then-len-eq0-clause-ok
returns-then-len-eq0-clause-ok c = takes-nothing c.args.self.now c.args.index c.args.more (sym c.len.ensures ∙ c.if-len-eq0.true)

pub index-requires : goal.index-requires
index-requires c =
    let m : MapFields = c.self.inside.served in
    let can : CanTakeAt c.args.more c.args.index m.layers = rw (← c.self.view_is) at c.requires in
    let (layer, there, room) = taken m.layers c.args.index c.args.more can in
    let within : c.args.index < length m.layers = slice_get_within m.layers c.args.index layer there in
    omega (arith, within, ap length c.self.invariant, length-map m.layers boxes_of, c.self.inside.grids.ok)

pub extended_grid-requires : goal.extended_grid-requires
extended_grid-requires c =
    let m : MapFields = c.self.inside.served in
    let can : CanTakeAt c.args.more c.args.index m.layers = rw (← c.self.view_is) at c.requires in
    let (layer, there, room) = taken m.layers c.args.index c.args.more can in
    let within : c.args.index < length m.layers = slice_get_within m.layers c.args.index layer there in
    let is : layer ≡ get_or m.layers c.args.index layer = sym (get_or_from_slice_get m.layers c.args.index layer layer there) in
    let grid : c.index.result.now ≡ map box_of layer.features = grid-at m.layers c.args.index layer c.self.inside.grids.items c.index.result.now within is c.self.invariant c.index.ensures in
    omega (arith, room.count, ap length grid, length-map layer.features box_of, ap length c.as_slice.ensures)

pub index_mut-requires : goal.index_mut-requires
index_mut-requires c =
    let m : MapFields = c.self.inside.served in
    let can : CanTakeAt c.args.more c.args.index m.layers = rw (← c.self.view_is) at c.requires in
    let (layer, there, room) = taken m.layers c.args.index c.args.more can in
    let within : c.args.index < length m.layers = slice_get_within m.layers c.args.index layer there in
    omega (arith, within, ap length c.self.invariant, length-map m.layers boxes_of, c.self.inside.grids.ok)

pub invariant_of-self-2 : goal.invariant_of-self-2
invariant_of-self-2 c =
    let m : MapFields = c.self.inside.served in
    let can : CanTakeAt c.args.more c.args.index m.layers = rw (← c.self.view_is) at c.requires in
    let (layer, there, room) = taken m.layers c.args.index c.args.more can in
    let within : c.args.index < length m.layers = slice_get_within m.layers c.args.index layer there in
    let is : layer ≡ get_or m.layers c.args.index layer = sym (get_or_from_slice_get m.layers c.args.index layer layer there) in
    let grid : c.index.result.now ≡ map box_of layer.features = grid-at m.layers c.args.index layer c.self.inside.grids.items c.index.result.now within is c.self.invariant c.index.ensures in
    rw c.in_ok-append.ensures.ok (boxes-extended m.layers c.args.index layer c.args.more c.self.inside.grids.items c.in_ok-grid.grid within is c.self.invariant
    (rw (grid, c.as_slice.ensures) at c.in_ok-grid.ensures))
