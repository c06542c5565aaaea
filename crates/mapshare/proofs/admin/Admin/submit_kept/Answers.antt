use Rattle.std.proofs.Common.{rules}
use Rattle.keepers.proofs.Moments.{weaker}
use Rattle.mapshare.proofs.Accepting.{crash_leaves_one, refused_one}
use Rattle.mapshare.proofs.admin.Admin.submit_kept.Goals as goal

pub returns-in-Some-Fault-clause-submitted : goal.returns-in-Some-Fault-clause-submitted
returns-in-Some-Fault-clause-submitted g c =
    let none = refused_one g.S.Sharing.opening c.args.self c.accept_kept.new.self c.args.batch c.from_ref.result.now c.in-Ok.accepted c.in-Some-Fault.fault c.from_ref.ensures.value c.in-Ok.ensures.accepted (search rules) in
    (none.1, none.2)

pub returns-in-Some-Fault-clause-kept : goal.returns-in-Some-Fault-clause-kept
returns-in-Some-Fault-clause-kept g c kept has =
    let none = refused_one g.S.Sharing.opening c.args.self c.accept_kept.new.self c.args.batch c.from_ref.result.now c.in-Ok.accepted c.in-Some-Fault.fault c.from_ref.ensures.value c.in-Ok.ensures.accepted (search rules) in
    c.in-Ok.ensures.unkept none.0

pub returns-in-Err-clause-any_moment : goal.returns-in-Err-clause-any_moment
returns-in-Err-clause-any_moment g c reliable kept has =
    weaker g.K.Keeps.moment g.K.Keeps.left_since c.args.keeper.now c.accept_kept.new.keeper _ _ (c.accept_kept.ensures.any_moment reliable kept has)
    (λ file. crash_leaves_one g.S.Sharing.opening c.args.self c.args.batch c.from_ref.result.now kept (g.K.Keeps.stands c.args.keeper.now file) c.from_ref.ensures.value)

pub returns-in-Some-Fault-clause-any_moment : goal.returns-in-Some-Fault-clause-any_moment
returns-in-Some-Fault-clause-any_moment g c reliable kept has =
    weaker g.K.Keeps.moment g.K.Keeps.left_since c.args.keeper.now c.accept_kept.new.keeper _ _ (c.accept_kept.ensures.any_moment reliable kept has)
    (λ file. crash_leaves_one g.S.Sharing.opening c.args.self c.args.batch c.from_ref.result.now kept (g.K.Keeps.stands c.args.keeper.now file) c.from_ref.ensures.value)

pub returns-in-Some-NoMemory-clause-any_moment : goal.returns-in-Some-NoMemory-clause-any_moment
returns-in-Some-NoMemory-clause-any_moment g c reliable kept has =
    weaker g.K.Keeps.moment g.K.Keeps.left_since c.args.keeper.now c.accept_kept.new.keeper _ _ (c.accept_kept.ensures.any_moment reliable kept has)
    (λ file. crash_leaves_one g.S.Sharing.opening c.args.self c.args.batch c.from_ref.result.now kept (g.K.Keeps.stands c.args.keeper.now file) c.from_ref.ensures.value)

pub returns-then-done-clause-any_moment : goal.returns-then-done-clause-any_moment
returns-then-done-clause-any_moment g c reliable kept has =
    weaker g.K.Keeps.moment g.K.Keeps.left_since c.args.keeper.now c.accept_kept.new.keeper _ _ (c.accept_kept.ensures.any_moment reliable kept has)
    (λ file. crash_leaves_one g.S.Sharing.opening c.args.self c.args.batch c.from_ref.result.now kept (g.K.Keeps.stands c.args.keeper.now file) c.from_ref.ensures.value)

pub returns-clause-any_moment : goal.returns-clause-any_moment
returns-clause-any_moment g c reliable kept has =
    weaker g.K.Keeps.moment g.K.Keeps.left_since c.args.keeper.now c.accept_kept.new.keeper _ _ (c.accept_kept.ensures.any_moment reliable kept has)
    (λ file. crash_leaves_one g.S.Sharing.opening c.args.self c.args.batch c.from_ref.result.now kept (g.K.Keeps.stands c.args.keeper.now file) c.from_ref.ensures.value)
