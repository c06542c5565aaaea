use Rattle.std.proofs.Common.{◌≡◌, Result, Ok, Err, IfOk, IfErr, MatchResult, subst}
use Rattle.maplex.specs.Lexed.{lexed}
use Rattle.mapwords.specs.Fault.{IsFaultOf}
use Rattle.maptree.proofs.OnePass.{same-meaning}
use Rattle.maptree.proofs.mapfile.read.Goals as goal

-- what is known of both is known of each
ok-part : {X E : Type 0} (P : X → Type 0) (Q : E → Type 0) (r : Result X E) → MatchResult r P Q → IfOk r P
ok-part P Q (Ok x) is = is
ok-part P Q (Err e) is = tt

err-part : {X E : Type 0} (P : X → Type 0) (Q : E → Type 0) (r : Result X E) → MatchResult r P Q → IfErr r Q
err-part P Q (Ok x) is = tt
err-part P Q (Err e) is = is

pub returns-clause-tree : goal.returns-clause-tree
returns-clause-tree c =
    let source = lexed c.args.source.now in
    subst (λ r. IfOk c.pass.result (λ tree. r ≡ Ok tree)) (same-meaning source.tokens source.tail) (ok-part _ _ c.pass.result c.pass.ensures)

pub returns-clause-fault : goal.returns-clause-fault
returns-clause-fault c =
    let source = lexed c.args.source.now in
    subst (λ r. IfErr c.pass.result (IsFaultOf r)) (same-meaning source.tokens source.tail) (err-part _ _ c.pass.result c.pass.ensures)
