use Rattle.std.proofs.Common.{ℕ, List}
use Rattle.journalfile.specs.Keeping.{FileHas, kept_stands}
use Rattle.keepers.proofs.Moments.{started, weaker}
use Rattle.journalfile.proofs.Succeeding.{has_after, left_has}
use Rattle.journalfile.specs.Compacting.{StandsForLeft}
use Rattle.journalfile.proofs.checkpoint.CompactedJournal.try_where_due.Goals as goal

pub returns-then-self-clause-any_moment : goal.returns-then-self-clause-any_moment
returns-then-self-clause-any_moment g c reliable batches has =
    let old = c.args.self.now.journal in
    started g.L.Log.moment g.L.Log.left_since old.log (λ (f : List ℕ). FileHas old.name.fingerprint f batches)
    (λ f left. kept_stands g.L.Log.content g.L.Log.may_leave old batches has f (g.met.L.Log.only_now reliable old.log f left))

pub returns-in_err-why-clause-any_moment : goal.returns-in_err-why-clause-any_moment
returns-in_err-why-clause-any_moment g c reliable batches has =
    let old = c.args.self.now.journal in
    weaker g.L.Log.moment g.L.Log.left_since old.log c.compact.new.self.log (StandsForLeft old.name has.own) (λ (f : List ℕ). FileHas old.name.fingerprint f batches)
    (c.in_err-why.ensures.any_moment reliable has.own has.settled) (left_has g.L.Log.content g.L.Log.may_leave old batches has)

pub returns-clause-has : goal.returns-clause-has
returns-clause-has g c reliable batches has =
    has_after g.L.Log.content g.L.Log.may_leave c.args.self.now.journal c.compact.new.self batches has c.in_ok-why.why (c.in_ok-why.ensures.compacted reliable has.own has.settled)

pub returns-clause-any_moment : goal.returns-clause-any_moment
returns-clause-any_moment g c reliable batches has =
    let old = c.args.self.now.journal in
    weaker g.L.Log.moment g.L.Log.left_since old.log c.compact.new.self.log (StandsForLeft old.name has.own) (λ (f : List ℕ). FileHas old.name.fingerprint f batches)
    (c.in_ok-why.ensures.any_moment reliable has.own has.settled) (left_has g.L.Log.content g.L.Log.may_leave old batches has)
