use Rattle.std.proofs.Common.{◌≡◌, ◌++◌, IsTrue, [], drop, length, nat_eq, sym, ◌∙◌, arith}
use Rattle.std.proofs.lemmas.Bool.Decides.{nat_tests}
use Rattle.mapshare.proofs.Chains.{idle_when}
use Rattle.mapshare.proofs.admin.Admin.is_idle.Goals as goal

pub returns : goal.returns
returns g c =
    let a = c.self.inside in
    let both = idle_when g.S.Sharing.opening a.published (drop a.writer.behind a.writer.log.items ++ a.queue.items) a.last c.self.invariant.1 in
    rw (← c.self.view_is) (
      (λ (t : IsTrue (nat_eq c.len.result c.len-2.result)). let same : c.len.result ≡ c.len-2.result = grind (arith, nat_tests, t) in both.0 (sym c.len.ensures ∙ same ∙ c.len-2.ensures)),
      (λ (e : drop (length a.published) a.last ≡ []). let same : c.len.result ≡ c.len-2.result = c.len.ensures ∙ both.1 e ∙ sym c.len-2.ensures in grind (arith, nat_tests, same)),
    )
