-- What is published: a state of the map machine, and the batches that led to it.
use Rattle.std.specs.Prelude.{◌≡◌, Some}
use Rattle.batches.specs.Batch.{State, accepted}
use Rattle.sharing.specs.Sharing.{after}
use Rattle.mapshare.specs.declared.replica.Replica.{Replica}
use Rattle.mapshare.specs.declared.replica.ReplicaValue.{ReplicaValue}

-- the value of a replica
abbrev pub shape_of : {S : Type 0} → Replica S → ReplicaValue
shape_of replica = record { machine = replica.machine; batches = replica.prefix }

-- the value after a later replica
abbrev pub applied : {S : Type 0} → ReplicaValue → Replica S → ReplicaValue
applied shape later = shape_of later

-- its state is the opening one after its batches, each accepted after those before it
abbrev pub IsMade : State → ReplicaValue → Type 0
IsMade opening shape = after accepted opening shape.batches ≡ Some shape.machine
