use Rattle.std.proofs.Common.{◌≤◌, length, Option, ℕ, subst, arith}
use Rattle.turns.specs.Pressure.{IsFoundIn}
use Rattle.turns.specs.Table.{connections}
use Rattle.turns.proofs.Ranks.{found-first, found-next, none-found}
use Rattle.turns.proofs.table.ConnectionTable.first.Goals as goal

pub returns-in-Some-clause-found : goal.returns-in-Some-clause-found
returns-in-Some-clause-found g c =
    let table = c.args.self.now in
    let after = c.loop-slot-test.false in
    let all : length (connections table) ≤ c.loop-slot.slot = omega (arith, after, c.len-slot-end.ensures, c.loop-slot.auto.slot-end) in
    found-first c.args.pressure table c.loop-slot.slot c.in-Some.slot c.in-Some.field-0-1 all
    (subst (λ (f : Option (ℕ × ℕ)). IsFoundIn c.args.pressure table c.loop-slot.slot f) c.in-Some.is c.loop-slot.invariant)

pub returns-in-None-clause-none : goal.returns-in-None-clause-none
returns-in-None-clause-none g c =
    let table = c.args.self.now in
    let after = c.loop-slot-test.false in
    let all : length (connections table) ≤ c.loop-slot.slot = omega (arith, after, c.len-slot-end.ensures, c.loop-slot.auto.slot-end) in
    none-found c.args.pressure table c.loop-slot.slot all
    (subst (λ (f : Option (ℕ × ℕ)). IsFoundIn c.args.pressure table c.loop-slot.slot f) c.in-None.is c.loop-slot.invariant)

pub loop-slot-preserved : goal.loop-slot-preserved
loop-slot-preserved g c =
    let table = c.args.self.now in
    rw (c.first_of-found.ensures, c.rank_at.ensures) (found-next c.args.pressure table c.loop-slot.slot c.loop-slot.found c.loop-slot.invariant)
