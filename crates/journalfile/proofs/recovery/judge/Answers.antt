use Rattle.std.proofs.Common.{◌≡◌, inl, inr, ℕ, List, ◌++◌, length, drop, ◌<◌, ◌∙◌, subst, ap, arith}
use Rattle.std.specs.Prelude.{true}
use Rattle.sha2.specs.Sha256.{sha256}
use Rattle.journal.specs.Name.{name_bytes, written_of}
use Rattle.journal.specs.Record.{header}
use Rattle.journal.specs.Reading.{ContainsRecord}
use Rattle.journalfile.specs.Frames.{IsSearched}
use Rattle.journalfile.specs.Recovery.{HasReplayed}
use Rattle.journalfile.proofs.Judging.{replayed_reads}
use Rattle.journalfile.proofs.recovery.judge.Goals as goal

pub returns-in-Err-clause-fault : goal.returns-in-Err-clause-fault
returns-in-Err-clause-fault g c reliable = c.in-Err.ensures.fault reliable c.args.machine.now

pub returns-then-count-written-clause-fault : goal.returns-then-count-written-clause-fault
returns-then-count-written-clause-fault g c reliable =
    let name = (name_bytes c.args.name.now) in
    let file = g.L.Log.content c.args.log.now in
    let start = c.read_same_name.new.frames.position in
    let count = c.in-Ok.replayed.0 in
    let end = c.in-Ok.replayed.1 in
    let is : file ≡ header sha256 name ++ drop start file = c.in_default.ensures.header reliable in
    let first : g.L.Log.content c.read_same_name.new.log ≡ file = (c.in_default.ensures.read reliable).same in
    let second : g.L.Log.content c.replay.new.log ≡ file = (c.in-Ok.ensures.read reliable).same ∙ first in
    let replayed = subst (λ (f : List ℕ). HasReplayed name g.L.Log.reliable f start c.args.machine.now c.replay.new.machine count end) first c.in-Ok.ensures.replayed in
    let few : length replayed.batches < written_of c.args.name.now.compaction = omega (arith, replayed.counted, c.written.ensures, c.if-count-written.true) in
    ((replayed.batches, drop end file, replayed_reads name g.L.Log.reliable file start c.args.machine.now c.replay.new.machine count end is replayed reliable, inr few, replayed.counted), second)

pub returns-then-branch-clause-fault : goal.returns-then-branch-clause-fault
returns-then-branch-clause-fault g c reliable =
    let name = (name_bytes c.args.name.now) in
    let file = g.L.Log.content c.args.log.now in
    let start = c.read_same_name.new.frames.position in
    let count = c.in-Ok.replayed.0 in
    let end = c.in-Ok.replayed.1 in
    let is : file ≡ header sha256 name ++ drop start file = c.in_default.ensures.header reliable in
    let first : g.L.Log.content c.read_same_name.new.log ≡ file = (c.in_default.ensures.read reliable).same in
    let second : g.L.Log.content c.replay.new.log ≡ file = (c.in-Ok.ensures.read reliable).same ∙ first in
    let replayed = subst (λ (f : List ℕ). HasReplayed name g.L.Log.reliable f start c.args.machine.now c.replay.new.machine count end) first c.in-Ok.ensures.replayed in
    let searched : IsSearched name (g.L.Log.content c.replay.new.log) c.go_to.new.self c.contains_record.new.frames true = rw c.if-branch.true at c.in_ok-contains_record.ensures.within reliable in
    let found = subst (λ (f : List ℕ). ContainsRecord sha256 name (drop end f)) second (subst (λ (n : ℕ). ContainsRecord sha256 name (drop n (g.L.Log.content c.replay.new.log))) (ap (λ a. a.position) c.go_to.ensures) searched) in
    ((replayed.batches, drop end file, replayed_reads name g.L.Log.reliable file start c.args.machine.now c.replay.new.machine count end is replayed reliable, inl found, replayed.counted), (c.in_ok-contains_record.ensures.read reliable).same ∙ second)
