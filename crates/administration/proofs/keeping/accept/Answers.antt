use Rattle.std.proofs.Common.{◌∙◌, take, arith, ap, sym, subst, length-take-le}
use Rattle.std.proofs.lemmas.List.{length-map}
use Rattle.journal.specs.Texts.{texts_of}
use Rattle.mapshare.specs.Admin.{IsAccepted, all_of}
use Rattle.administration.proofs.Groups.{all-with, front-done, results-few, results-some, same-all, some-pending}
use Rattle.administration.proofs.KeptBatches.{none_lost_as, none_lost_kept}
use Rattle.administration.proofs.keeping.accept.Goals as goal

pub publish_accepted-admin-requires : goal.publish_accepted-admin-requires
publish_accepted-admin-requires g c = record {
  pending = λ some.
      let texts = texts_of c.args.batches.now in
      let has = c.in-Ok.ensures.accepted in
      let long = length-take-le c.in-Ok.accepted.count texts has.within in
      rw has.pending (some-pending c.args.admin (take c.in-Ok.accepted.count texts) (omega (arith, some, long)));
}

pub returns-clause-some : goal.returns-clause-some
returns-clause-some g c some =
    results-some _ (texts_of c.args.batches.now) c.publish_accepted-admin.result.1 c.in-Ok.accepted.count c.in-Ok.accepted.refused c.in-Ok.ensures.accepted.stop
    (omega (arith, some, length-map c.args.batches.now (λ text. text.items)))

pub returns-clause-few : goal.returns-clause-few
returns-clause-few g c =
    omega (
      arith,
      length-map c.args.batches.now (λ text. text.items),
      results-few _ (texts_of c.args.batches.now) c.publish_accepted-admin.result.1 c.in-Ok.accepted.count c.in-Ok.accepted.refused c.in-Ok.ensures.accepted.stop c.in-Ok.ensures.accepted.within,
    )

pub returns-clause-done : goal.returns-clause-done
returns-clause-done g c =
    front-done _ _ (texts_of c.args.batches.now) c.in-Ok.accepted c.accept_kept.new.self c.publish_accepted-admin.result.1 c.publish_accepted-admin.result.0
    c.in-Ok.ensures.accepted c.publish_accepted-admin.ensures.some c.publish_accepted-admin.ensures.published

pub returns-clause-kept : goal.returns-clause-kept
returns-clause-kept g c kept was =
    let first = take c.in-Ok.accepted.count (texts_of c.args.batches.now) in (
      first,
      same-all g.S.Sharing.opening c.accept_kept.new.self c.publish_accepted-admin.result.1 c.publish_accepted-admin.result.0 c.publish_accepted-admin.ensures.published
          ∙ (ap all_of c.in-Ok.ensures.accepted.pending ∙ all-with c.args.admin first),
      c.in-Ok.ensures.kept kept was,
    )

pub returns-in-Err-clause-crash : goal.returns-in-Err-clause-crash
returns-in-Err-clause-crash g c =
    none_lost_kept g.K.Keeps g.S.Sharing.opening c.args.admin c.accept_kept.new.self c.args.keeper.now c.accept_kept.new.keeper (texts_of c.args.batches.now)
    (λ is. subst (IsAccepted g.S.Sharing.opening) (sym c.in-Err.ensures.failed.4) is) c.accept_kept.ensures.same_file c.accept_kept.ensures.any_moment

pub returns-clause-crash : goal.returns-clause-crash
returns-clause-crash g c =
    none_lost_as g.K.Keeps g.S.Sharing.opening c.args.admin c.accept_kept.new.self c.publish_accepted-admin.result.0 c.args.keeper.now c.accept_kept.new.keeper
    (same-all g.S.Sharing.opening c.accept_kept.new.self c.publish_accepted-admin.result.1 c.publish_accepted-admin.result.0 c.publish_accepted-admin.ensures.published)
    (none_lost_kept g.K.Keeps g.S.Sharing.opening c.args.admin c.accept_kept.new.self c.args.keeper.now c.accept_kept.new.keeper (texts_of c.args.batches.now)
    (λ is. c.in-Ok.ensures.accepted.made) c.accept_kept.ensures.same_file c.accept_kept.ensures.any_moment)
