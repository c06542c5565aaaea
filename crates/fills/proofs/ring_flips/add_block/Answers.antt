use Rattle.std.proofs.Common.{◌∙◌, sym, subst}
use Rattle.std.proofs.lemmas.Bool.{and_parts}
use Rattle.std.specs.Prelude.{int_le}
use Rattle.geom.specs.World.{Place}
use Rattle.fills.specs.Flipped.{AddsEdge, IsRun}
use Rattle.fills.proofs.Skipping.{IsOver, by-chord, in-column, right-of, within-run}
use Rattle.fills.proofs.ring_flips.add_block.Goals as goal

-- a block between the two latitudes of the run
over : (c : goal.Then-has-2) → IsOver c.args.rows.now c.args.flips.now.flips c.args.run c.args.block.now.vertices.now
over c =
    let low = (and_parts (int_le c.args.run.low c.args.block.now.area.miny) (int_le c.args.block.now.area.miny c.args.run.high) (rw c.miny.ensures at (sym c.if-has.ensures))).0 in
    let high = (and_parts (int_le c.args.run.low c.args.block.now.area.maxy) (int_le c.args.block.now.area.maxy c.args.run.high) (rw c.maxy.ensures at (sym c.if-has-2.ensures))).1 in
    within-run c.args.rows.now c.args.run c.args.block.now.area c.args.block.now.vertices.now c.args.flips.now.flips c.requires.run c.requires.has low high

pub returns-then-has-2-clause-run : goal.returns-then-has-2-clause-run
returns-then-has-2-clause-run c =
    subst (λ (p : Place). IsRun c.args.rows.now (record { from = p; row = c.args.run.row; low = c.args.run.low; high = c.args.run.high })) (sym c.last_of-last.ensures) (over c).valid

pub returns-then-has-2-clause-adds : goal.returns-then-has-2-clause-adds
returns-then-has-2-clause-adds c = (over c).adds

pub returns-then-is_right-clause-adds : goal.returns-then-is_right-clause-adds
returns-then-is_right-clause-adds c =
    right-of c.args.rows.now c.args.block.now.area c.args.run.from c.args.block.now.vertices.now c.args.flips.now.flips c.is_right.ensures.limits c.requires.has (sym c.is_right.ensures.value ∙ c.if-is_right.true)

pub returns-then-is_left-clause-adds : goal.returns-then-is_left-clause-adds
returns-then-is_left-clause-adds c =
    by-chord c.args.rows.now c.args.block.now.area c.args.run.from c.args.block.now.vertices.now c.args.flips.now.flips c.go_on.new.flips.flips c.is_left.ensures.limits c.requires.has
    (sym c.is_left.ensures.value ∙ c.if-is_left.true)
    (subst (λ (p : Place). AddsEdge c.args.rows.now c.args.flips.now.flips c.args.run.from p c.go_on.new.flips.flips) c.last_of-last.ensures c.in_ok-go_on.ensures.edge)

pub returns-then-is_in_column-clause-adds : goal.returns-then-is_in_column-clause-adds
returns-then-is_in_column-clause-adds c =
    in-column c.args.rows.now c.args.block.now.area c.args.run.from c.args.block.now.vertices.now c.args.flips.now.flips c.go_on-then-is_in_column.new.flips.flips c.is_in_column.ensures.limits c.requires.has
    (sym c.is_in_column.ensures.value ∙ c.if-is_in_column.true)
    (subst (λ (p : Place). AddsEdge c.args.rows.now c.args.flips.now.flips c.args.run.from p c.go_on-then-is_in_column.new.flips.flips) c.last_of-last.ensures c.in_ok-go_on-2.ensures.edge)
