use Rattle.std.proofs.Common.{◌≡◌, ◌≤◌, length, map, Some, sym, ◌∙◌, ap, subst, arith}
use Rattle.std.proofs.lemmas.Bool.{false≢true}
use Rattle.std.proofs.lemmas.List.{length-map}
use Rattle.std.specs.List.{slice_get}
use Rattle.geom.specs.PxBox.{PixelBoxValue}
use Rattle.mapdefs.specs.declared.label.LabelFields.{LabelFields}
use Rattle.labelcache.specs.LabelBox.{corner_at, size_in}
use Rattle.labelcache.specs.Placing.{IsFree, IsFreeAt}
use Rattle.labelcache.proofs.Firsts.{none-more, none-all, changed-at}
use Rattle.labelcache.proofs.trial.first_free.Goals as goal

pub loop-position-preserved : goal.loop-position-preserved
loop-position-preserved c =
    let page = c.args.page.now in
    let candidate = c.args.candidate.now in
    let pixels = map (corner_at candidate.anchor (size_in page.fonts candidate)) c.args.positions.now in
    let is : slice_get pixels c.loop-position.position-index ≡ Some c.fit_at-fit.result.at =
    changed-at (corner_at candidate.anchor (size_in page.fonts candidate)) c.args.positions.now c.loop-position.position-index _ c.loop-position-test.true ∙ ap Some (sym c.fit_at-fit.ensures.at) in
    none-more (IsFreeAt page c.args.placing.now.labels candidate) pixels _ _ c.loop-position.invariant is
    (λ free.
    let boxed = subst (λ (b : PixelBoxValue). IsFree page candidate.label c.args.placing.now.labels b) (sym c.fit_at-fit.ensures.taken) free in
    let labelled = subst (λ (l : LabelFields). IsFree page l c.args.placing.now.labels c.fit_at-fit.result.taken) (sym c.label-label.ensures.value) boxed in
    false≢true (c.if-is_free.ensures.1 labelled))

pub returns-clause-none : goal.returns-clause-none
returns-clause-none c =
    let page = c.args.page.now in
    let candidate = c.args.candidate.now in
    let pixels = map (corner_at candidate.anchor (size_in page.fonts candidate)) c.args.positions.now in
    let past : length pixels ≤ c.loop-position.position-index = omega (arith, length-map c.args.positions.now (corner_at candidate.anchor (size_in page.fonts candidate)), c.loop-position-test.false) in
    none-all (IsFreeAt page c.args.placing.now.labels candidate) pixels _ c.loop-position.invariant past
