use Rattle.std.proofs.Common.{◌≡◌, ◌∙◌, ◌++◌, Some, IsSome, drop, refl, sym, ap, subst}
use Rattle.batches.specs.Batch.{accepted}
use Rattle.mapshare.proofs.Chains.{chain_all}
use Rattle.sharing.specs.Sharing.{after}
use Rattle.mapshare.proofs.admin.Admin.all.Goals as goal

pub returns-clause-all : goal.returns-clause-all
returns-clause-all g c =
    let a = c.self.inside in
    rw (← c.self.view_is) (c.shown.ensures ∙ chain_all g.S.Sharing.opening a.published (drop a.writer.behind a.writer.log.items ++ a.queue.items) a.last c.self.invariant.1)

pub returns-clause-accepted : goal.returns-clause-accepted
returns-clause-accepted g c =
    let a = c.self.inside in
    let state : after accepted g.S.Sharing.opening c.shown.result ≡ Some a.checked = ap (after accepted g.S.Sharing.opening) c.shown.ensures ∙ c.self.invariant.2 in
    subst IsSome (sym state) refl
