use Rattle.std.proofs.Common.{◌≡◌, ◌∙◌, ◌≤◌, ℕ, List, length, take, drop, arith, refl, sym, ap, subst, length-append, length-drop, take-add, take-append-drop}
use Rattle.std.proofs.lemmas.List.{length-map, take_all, take_rest}
use Rattle.journal.specs.Texts.{texts_of}
use Rattle.administration.specs.Keeping.{HasFailed, IsKeptSince, results_of}
use Rattle.administration.specs.Serving.{AreSubmitted}
use Rattle.administration.proofs.Groups.{nothing-left, submitted-more, texts-drop}
use Rattle.administration.proofs.KeptBatches.{more_kept, none_lost, none_lost_more, same_kept}
use Rattle.administration.proofs.keeping.accept_all.Goals as goal

pub loop-rest-init : goal.loop-rest-init
loop-rest-init g c = rw c.new-results.ensures (record {
  rest = refl;
  few = omega arith;
  done = refl;
  ready = c.requires.ready;
  keeps = λ kept was. same_kept g.K.Keeps.keeps c.args.admin c.args.admin kept c.args.keeper.now refl was;
  crash = none_lost g.K.Keeps g.S.Sharing.opening g.met.K.Keeps.stays c.args.admin c.args.keeper.now;
})

pub returns-in-Err-clause-failed : goal.returns-in-Err-clause-failed
returns-in-Err-clause-failed g c =
    let before = c.loop-rest.invariant in
    let texts = texts_of c.args.batches.now in
    let count = length c.loop-rest.results in
    let has : HasFailed g.S.Sharing.opening c.loop-rest.admin (texts_of c.loop-rest.rest.now) × (c.accept-after.result.0 ≡ c.loop-rest.admin) = rw c.in-Err.is at c.accept-after.ensures.done in
    let left : texts_of c.loop-rest.rest.now ≡ drop count texts = ap texts_of before.rest ∙ texts-drop count c.args.batches.now in
    rw has.1 (take count texts, drop count texts, sym (take-append-drop count texts), before.done, subst (HasFailed g.S.Sharing.opening c.loop-rest.admin) left has.0)

pub returns-in-Err-clause-crash : goal.returns-in-Err-clause-crash
returns-in-Err-clause-crash g c =
    let before = c.loop-rest.invariant in
    none_lost_more g.K.Keeps g.S.Sharing.opening c.args.admin c.loop-rest.admin c.accept-after.result.0 c.args.keeper.now c.loop-rest.keeper c.accept-after.new.keeper before.crash before.keeps c.accept-after.ensures.crash

pub loop-rest-preserved : goal.loop-rest-preserved
loop-rest-preserved g c =
    let opening = g.S.Sharing.opening in
    let before = c.loop-rest.invariant in
    let texts = texts_of c.args.batches.now in
    let count = length c.loop-rest.results in
    let more = results_of c.in-Ok.front in
    let left : texts_of c.loop-rest.rest.now ≡ drop count texts = ap texts_of before.rest ∙ texts-drop count c.args.batches.now in
    let few : length more ≤ length c.loop-rest.rest.now = rw c.in-Ok.is at c.accept-after.ensures.few in
    let done : AreSubmitted opening c.loop-rest.admin (take (length more) (texts_of c.loop-rest.rest.now)) more c.accept-after.result.0 = rw c.in-Ok.is at c.accept-after.ensures.done in
    let step = λ (now : List (List ℕ)) (is : g.K.Keeps.keeps c.loop-rest.keeper now).
    let all : IsKeptSince g.K.Keeps.keeps c.loop-rest.admin now c.accept-after.result.0 c.accept-after.new.keeper = rw c.in-Ok.is at (c.accept-after.ensures.kept now is) in all in
    let (was, has) = before.ready in
    record {
      rest = rw c.as_slice.ensures (take_rest c.args.batches.now (length c.add.new.self));
      few = omega (arith, ap length c.add.ensures, length-append c.loop-rest.results more, few, ap length before.rest, length-drop count c.args.batches.now, before.few);
      done = rw (c.add.ensures, length-append c.loop-rest.results more, take-add count (length more) texts)
          (submitted-more opening c.args.admin (take count texts) c.loop-rest.results c.loop-rest.admin _ more c.accept-after.result.0 before.done
          (subst (λ (l : List (List ℕ)). AreSubmitted opening c.loop-rest.admin (take (length more) l) more c.accept-after.result.0) left done));
      ready = (_, (step was has).2);
      keeps = λ kept is. more_kept g.K.Keeps.keeps c.args.admin c.loop-rest.admin c.accept-after.result.0 kept c.loop-rest.keeper c.accept-after.new.keeper (before.keeps kept is) step;
      crash = none_lost_more g.K.Keeps opening c.args.admin c.loop-rest.admin c.accept-after.result.0 c.args.keeper.now c.loop-rest.keeper c.accept-after.new.keeper before.crash before.keeps c.accept-after.ensures.crash;
    }

pub returns-clause-done : goal.returns-clause-done
returns-clause-done g c =
    let before = c.loop-rest.invariant in
    let texts = texts_of c.args.batches.now in
    let count = length c.loop-rest.results in
    let nothing = nothing-left _ _ c.is_empty.ensures c.loop-rest-test.false in
    let all : length texts ≤ count = omega (arith, ap length nothing, ap length before.rest, length-drop count c.args.batches.now, length-map c.args.batches.now (λ text. text.items)) in
    rw (take_all count texts all) at before.done
