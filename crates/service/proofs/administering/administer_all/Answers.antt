use Rattle.std.proofs.Common.{◌≡◌, None, refl, sym, ap, subst, List, ℕ}
use Rattle.administration.specs.Keeping.{IsKeptSince}
use Rattle.administration.proofs.KeptBatches.{more_kept, none_lost, none_lost_more, same_kept}
use Rattle.administration.proofs.Steps.{none-so}
use Rattle.mapshare.specs.Admin.{all_of}
use Rattle.service.proofs.administering.administer_all.Goals as goal

pub loop-init : goal.loop-init
loop-init g c = record {
  ready = c.requires.ready;
  keeps = λ kept was. same_kept g.K.Keeps.keeps c.args.admin c.args.admin kept c.args.keeper.now refl was;
  crash = none_lost g.K.Keeps g.S.Sharing.opening g.met.K.Keeps.stays c.args.admin c.args.keeper.now;
}

pub loop-preserved-in_default : goal.loop-preserved-in_default
loop-preserved-in_default g c =
    let keeps = g.K.Keeps.keeps in
    let after = c.administer_one-after in
    let (opened, same, still) = none-so after.result.1 _ c.in_default.not-Some after.ensures.unopened in
    let moved = λ (kept : List (List ℕ)) (is : keeps c.loop.keeper kept). subst (λ k. keeps k kept) (sym still) is in
    let step = λ (kept : List (List ℕ)) (is : keeps c.loop.keeper kept). same_kept keeps c.loop.admin after.result.0 kept after.new.keeper (ap all_of same) (moved kept is) in
    record {
      ready = (c.loop.invariant.ready.0, moved c.loop.invariant.ready.0 c.loop.invariant.ready.1);
      keeps = λ kept was. more_kept keeps c.args.admin c.loop.admin after.result.0 kept c.loop.keeper after.new.keeper (c.loop.invariant.keeps kept was) step;
      crash = none_lost_more g.K.Keeps g.S.Sharing.opening c.args.admin c.loop.admin c.administer_one-after.result.0 c.args.keeper.now c.loop.keeper c.administer_one-after.new.keeper c.loop.invariant.crash c.loop.invariant.keeps c.administer_one-after.ensures.crash;
    }

pub loop-preserved : goal.loop-preserved
loop-preserved g c =
    let keeps = g.K.Keeps.keeps in
    let after = c.administer_one-after in
    let has : c.in-Some-attempt.field-0.cause ≡ None = c.in-None-cause.is in
    let step = λ (kept : List (List ℕ)) (is : keeps c.loop.keeper kept).
    let all : c.in-Some-attempt.field-0.cause ≡ None → IsKeptSince keeps c.loop.admin kept after.result.0 after.new.keeper = rw c.in-Some-attempt.is at (after.ensures.kept kept is) in all has in
    record {
      ready = (_, (step c.loop.invariant.ready.0 c.loop.invariant.ready.1).2);
      keeps = λ kept was. more_kept keeps c.args.admin c.loop.admin after.result.0 kept c.loop.keeper after.new.keeper (c.loop.invariant.keeps kept was) step;
      crash = none_lost_more g.K.Keeps g.S.Sharing.opening c.args.admin c.loop.admin c.administer_one-after.result.0 c.args.keeper.now c.loop.keeper c.administer_one-after.new.keeper c.loop.invariant.crash c.loop.invariant.keeps c.administer_one-after.ensures.crash;
    }

pub returns-in-Some-cause-clause-crash : goal.returns-in-Some-cause-clause-crash
returns-in-Some-cause-clause-crash g c =
    none_lost_more g.K.Keeps g.S.Sharing.opening c.args.admin c.loop.admin c.administer_one-after.result.0 c.args.keeper.now c.loop.keeper c.administer_one-after.new.keeper c.loop.invariant.crash c.loop.invariant.keeps c.administer_one-after.ensures.crash
