use Rattle.std.proofs.Common.{◌≡◌, ◌∙◌, ◌++◌, [], List, ℕ, length, drop, ap, arith}
use Rattle.std.proofs.lemmas.List.{drop_all}
use Rattle.mapshare.proofs.Chains.{chain_all}
use Rattle.mapshare.proofs.admin.Admin.publish.Goals as goal
use Rattle.mapshare.proofs.admin.Admin.publish.Goals.{then-done, else-done}

pub returns : goal.returns
returns g c =
    let a = c.self.inside in
    elim c.if-done.branch [
      | then-done w ↦ (
          let none : drop (length w.copy.result) a.last ≡ [] = drop_all (length w.copy.result) a.last (omega (arith, ap length w.copy.ensures)) in
          rw (w.if-done.true, w.admin-is) (
            w.copy.ensures ∙ rw (← c.self.view_is) (chain_all g.S.Sharing.opening a.published (drop a.writer.behind a.writer.log.items ++ a.queue.items) a.last c.self.invariant.1),
            ap (λ (p : List (List ℕ)). record { published = w.copy.result; pending = p }) none,
          ))
      | else-done w ↦ rw (w.if-done.false, w.admin-is) c.self.view_is
    ]
