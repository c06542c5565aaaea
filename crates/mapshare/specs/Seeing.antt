-- The batches that readers have seen, and the rule for them and the published replica (docs/SERVICE.md, "Sharing").
use Rattle.std.specs.Prelude.{◌≡◌, ℕ, List, []}
use mathlib.Core.List.{IsPrefix}
use mathlib.Core.Option.{some}
use lib.ListN.{get_elem?}
use Rattle.batches.specs.Batch.{State}
use Rattle.mapshare.specs.Replica.{IsMade, shape_of}
use Rattle.mapshare.specs.declared.replica.Replica.{Replica}
use Rattle.mapshare.specs.declared.rule.View.{View}

-- the view of an end that has seen no batch
abbrev pub nothing_seen : View
nothing_seen = record { seen = [] }

-- the replica is made by its batches, and they begin with those that each end has seen
abbrev pub Keeps : {S : Type 0} → State → Replica S → List View → Type 0
Keeps opening replica views =
    IsMade opening (shape_of replica) × ((seat : ℕ) (v : View) → get_elem? views seat ≡ some v → IsPrefix v.seen replica.prefix)

-- a replica is seen that is made by its batches. They begin with the batches seen before, and are those seen after
abbrev pub Shows : {S : Type 0} → State → View → Replica S → View → Type 0
Shows opening before replica after =
    IsMade opening (shape_of replica) × IsPrefix before.seen replica.prefix × (after.seen ≡ replica.prefix)
