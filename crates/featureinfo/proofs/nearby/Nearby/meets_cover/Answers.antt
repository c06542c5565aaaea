use Rattle.std.proofs.Common.{◌≡◌, false, refl, sym, ◌∙◌, ap, subst, inl, inr, arith}
use Rattle.std.proofs.lemmas.Bool.{cases_lt}
use Rattle.std.specs.List.{list_any}
use Rattle.featureinfo.specs.Nearby.{meets}
use Rattle.featureinfo.proofs.Spans.{some-passes, none-passes}
use Rattle.featureinfo.proofs.nearby.Nearby.meets_cover.Goals as goal

pub returns-then-meets : goal.returns-then-meets
returns-then-meets g c =
    let found = some-passes (λ i. g.C.Cover.covered c.args.cover.now i c.loop-row.row) 0 c.args.width c.args.self.left c.args.self.right _ c.in_ok-row.ensures.ok c.requires.some (ap (list_any (meets c.args.self.left c.args.self.right)) (sym c.as_slice.ensures) ∙ sym c.meets.ensures ∙ c.if-meets.true) in
    (λ t. record { column = found.column; row = c.loop-row.row; left = found.least; right = found.most; top = c.loop-row.invariant.least; bottom = omega (arith, c.loop-row-test.true); passes = found.passes }, λ s. refl)

pub loop-row-preserved : goal.loop-row-preserved
loop-row-preserved g c = record {
  least = omega (arith, c.loop-row.invariant.least);
  none = λ column row left right top below. elim (cases_lt row c.loop-row.row) [
    | inl before ↦ c.loop-row.invariant.none column row left right top before
    | inr past ↦ (
        let is : row ≡ c.loop-row.row = omega arith in
        subst (λ r. g.C.Cover.covered c.args.cover.now column r ≡ false) (sym is)
        (none-passes (λ i. g.C.Cover.covered c.args.cover.now i c.loop-row.row) 0 c.args.width c.args.self.left c.args.self.right _ c.in_ok-row.ensures.ok (ap (list_any (meets c.args.self.left c.args.self.right)) (sym c.as_slice.ensures) ∙ sym c.meets.ensures ∙ c.if-meets.false) column (omega arith) (omega (arith, c.requires.width)) left right))
  ];
}
