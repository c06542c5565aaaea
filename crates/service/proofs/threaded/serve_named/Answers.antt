use Rattle.std.proofs.Common.{◌∙◌, ◌++◌, ℕ, List, append-nil, ap, subst, sym, refl}
use Rattle.mapshare.specs.Admin.{Batches, all_of}
use Rattle.service.proofs.Timing.{loses-none, still-there}
use Rattle.service.proofs.threaded.serve_named.Goals as goal

pub returns-in-Ok-clause-kept : goal.returns-in-Ok-clause-kept
returns-in-Ok-clause-kept g c batches was other =
    let (more, all, is) = c.serve_logged-admin.ensures.kept batches was (λ e. other (rw c.ended-served.ensures.ended e)) in
    let same = all ∙ ap (λ (b : Batches). all_of b ++ more) (c.unlogged-opened.ensures.0 ∙ c.in-Ok.ensures.admin) in
    rw c.ended-served.ensures.ended (subst (λ (l : List (List ℕ)). g.K.Keeps.keeps c.serve_logged-admin.new.keeper (batches ++ l)) (sym same) is)

pub returns-in-Ok-clause-accepted : goal.returns-in-Ok-clause-accepted
returns-in-Ok-clause-accepted g c = rw c.ended-served.ensures.ended c.ended-served.ensures.accepted

pub returns-in-Ok-clause-crash : goal.returns-in-Ok-clause-crash
returns-in-Ok-clause-crash g c =
    rw c.ended-served.ensures.ended
    (loses-none g.K.Keeps g.S.Sharing.opening c.args.map.kept.keeper c.serve_logged-admin.new.keeper _ (rw (c.unlogged-opened.ensures.0, c.in-Ok.ensures.admin) at c.serve_logged-admin.ensures.crash))

pub returns-in-Err-Count-clause-kept : goal.returns-in-Err-Count-clause-kept
returns-in-Err-Count-clause-kept g c batches was other = rw (c.unshared.ensures, c.begin-served.ensures, append-nil batches) was

pub returns-in-Err-Count-clause-accepted : goal.returns-in-Err-Count-clause-accepted
returns-in-Err-Count-clause-accepted g c = rw (c.unshared.ensures, c.begin-served.ensures) refl

pub returns-in-Err-Count-clause-crash : goal.returns-in-Err-Count-clause-crash
returns-in-Err-Count-clause-crash g c = rw (c.unshared.ensures, c.begin-served.ensures) (still-there g.K.Keeps g.S.Sharing.opening c.args.map.kept.keeper g.met.K.Keeps.stays)

pub returns-in-Ok-clause-clients : goal.returns-in-Ok-clause-clients
returns-in-Ok-clause-clients g c =
    rw c.ended-served.ensures.ended (rw c.unlogged-opened.ensures.1 at c.serve_logged-admin.ensures.clients)
