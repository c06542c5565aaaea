use Rattle.std.proofs.Common.{◌∙◌}
use Rattle.journalfile.specs.Compacting.{StandsForLeft}
use Rattle.keepers.proofs.Moments.{weaker}
use Rattle.journalfile.proofs.Succeeding.{still_settled, taking_place, unreplaced}
use Rattle.journalfile.proofs.writing.Journal.compact.Goals as goal

pub returns-in-Err-clause-any_moment : goal.returns-in-Err-clause-any_moment
returns-in-Err-clause-any_moment g c reliable own settled =
    let old = c.args.self.now in
    weaker g.L.Log.moment g.L.Log.left_since old.log c.successor_of.new.journal.log (g.L.Log.may_leave old.log) (StandsForLeft old.name own) (c.in-Err.ensures.read reliable).any_moment
    (unreplaced g.L.Log.content g.L.Log.may_leave old own settled)

pub replace-requires : goal.replace-requires
replace-requires g c = record { synced = c.in-Ok.ensures.synced }

pub returns-in-Err-NotReplaced-clause-any_moment : goal.returns-in-Err-NotReplaced-clause-any_moment
returns-in-Err-NotReplaced-clause-any_moment g c reliable own settled =
    taking_place g.L.Log.content g.L.Log.may_leave g.L.Log.moment g.L.Log.left_since c.args.self.now c.in-Ok.successor c.successor_of.new.journal.log c.replace.new.self own settled
    (c.in-Ok.ensures.compacted reliable own settled) (c.in-Ok.ensures.read reliable) (c.in-Err-NotReplaced.ensures.time reliable) (c.in-Err-NotReplaced.ensures.crash reliable)

pub returns-in-Err-Failed-clause-any_moment : goal.returns-in-Err-Failed-clause-any_moment
returns-in-Err-Failed-clause-any_moment g c reliable own settled =
    taking_place g.L.Log.content g.L.Log.may_leave g.L.Log.moment g.L.Log.left_since c.args.self.now c.in-Ok.successor c.successor_of.new.journal.log c.replace.new.self own settled
    (c.in-Ok.ensures.compacted reliable own settled) (c.in-Ok.ensures.read reliable) (c.in-Err-Failed.ensures.time reliable) (c.in-Err-Failed.ensures.crash reliable)

pub returns-clause-any_moment : goal.returns-clause-any_moment
returns-clause-any_moment g c reliable own settled =
    taking_place g.L.Log.content g.L.Log.may_leave g.L.Log.moment g.L.Log.left_since c.args.self.now c.in-Ok.successor c.successor_of.new.journal.log c.replace.new.self own settled
    (c.in-Ok.ensures.compacted reliable own settled) (c.in-Ok.ensures.read reliable) (c.in-Ok-replace.ensures.time reliable) (c.in-Ok-replace.ensures.crash reliable)

pub returns-in-Err-NotReplaced-clause-compacted : goal.returns-in-Err-NotReplaced-clause-compacted
returns-in-Err-NotReplaced-clause-compacted g c reliable own settled =
    let (same, crash) = rw c.in-Err-NotReplaced.field-0-is at (c.in-Err-NotReplaced.ensures.unreplaced reliable) in
    let read = c.in-Ok.ensures.read reliable in
    (still_settled g.L.Log.content g.L.Log.may_leave c.args.self.now _ own settled (same ∙ read.same) (λ f left. read.crash f (crash f left)) c.in-Ok.ensures.same.0 c.in-Ok.ensures.same.1 c.in-Ok.ensures.same.2, c.in-Ok.ensures.same.0)
