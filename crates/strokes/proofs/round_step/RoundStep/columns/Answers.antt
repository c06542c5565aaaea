use Rattle.std.proofs.Common.{◌≡◌, ◌∙◌, ℕ, ◌+◌, ◌<◌, ◌≤◌, Bool, refl, sym, subst, arith}
use lib.IntN.{pos}
use Rattle.geom.specs.Device.{pixel_centre}
use Rattle.scanfill.specs.declared.span.Span.{Span}
use Rattle.scanfill.specs.Runs.{has_column}
use Rattle.strokes.specs.Chord.{NothingBetween, is_beside}
use Rattle.strokes.specs.Round.{apart, covers_round, is_round, joined}
use Rattle.strokes.specs.Segment.{SegmentValue}
use Rattle.strokes.proofs.Gaps.{core-all, in-discs, joined-within}
use Rattle.strokes.proofs.Rounded.{covers-parts, no-columns, row-between}
use Rattle.strokes.proofs.Widening.{AreParts, IsWidened, beside-core, discs-core, in-joined, none-covered, widened-all}
use Rattle.strokes.proofs.round_step.RoundStep.columns.Goals as goal

-- the tests of a row
abbrev covered : SegmentValue → ℕ → ℕ → Bool
covered v row i = covers_round v.width v.edge (pixel_centre (pos i) (pos row))

abbrev first_disc : SegmentValue → ℕ → ℕ → Bool
first_disc v row i = is_round v.width v.edge.from (pixel_centre (pos i) (pos row))

abbrev second_disc : SegmentValue → ℕ → ℕ → Bool
second_disc v row i = is_round v.width v.edge.to (pixel_centre (pos i) (pos row))

abbrev beside : SegmentValue → ℕ → ℕ → Bool
beside v row i = is_beside v.width v.edge row i

parts : (v : SegmentValue) (row : ℕ) → AreParts (covered v row) (first_disc v row) (second_disc v row) (beside v row)
parts v row = λ i. covers-parts v.width v.edge (pixel_centre (pos i) (pos row))

pub returns-then-discs-clause-all : goal.returns-then-discs-clause-all
returns-then-discs-clause-all c =
    let v : SegmentValue = c.args.self.now in
    let row = c.args.row in
    let end = c.args.end in
    let one : (i : ℕ) → i < end → has_column c.columns-one.result i ≡ first_disc v row i =
    subst (λ (v : SegmentValue). (i : ℕ) → i < end → has_column c.columns-one.result i ≡ first_disc v row i) c.self.view_is c.columns-one.ensures.all in
    let two : (i : ℕ) → i < end → has_column c.columns-other.result i ≡ second_disc v row i =
    subst (λ (v : SegmentValue). (i : ℕ) → i < end → has_column c.columns-other.result i ≡ second_disc v row i) c.self.view_is c.columns-other.ensures.all in
    let inside : c.joined-discs.result.to ≤ end = omega (arith, c.widened.ensures.behind, c.widened.ensures.within) in
    let core = discs-core (covered v row) (first_disc v row) (second_disc v row) (beside v row) c.columns-one.result c.columns-other.result end
    (row-between v.width v.edge row) (parts v row) c.columns-one.ensures.within c.columns-other.ensures.within
    (rw c.joined-discs.ensures at c.if-discs.true) (rw c.joined-discs.ensures at inside) one two in
    let wide : IsWidened (beside v row) c.joined-discs.result c.widened.result end = record {
      before = c.widened.ensures.before;
      behind = c.widened.ensures.behind;
      within = c.widened.ensures.within;
      left = c.widened.ensures.left;
      right = c.widened.ensures.right;
      first = c.widened.ensures.first;
      last = c.widened.ensures.last;
    } in
    widened-all (covered v row) (first_disc v row) (second_disc v row) (beside v row) (joined c.columns-one.result c.columns-other.result) c.widened.result end
    (row-between v.width v.edge row) (parts v row) core (subst (λ (span : Span). IsWidened (beside v row) span c.widened.result end) c.joined-discs.ensures wide)

pub returns-then-self-clause-all : goal.returns-then-self-clause-all
returns-then-self-clause-all c =
    let v : SegmentValue = c.args.self.now in
    let row = c.args.row in
    let end = c.args.end in
    let one : (i : ℕ) → i < end → has_column c.columns-one.result i ≡ first_disc v row i =
    subst (λ (v : SegmentValue). (i : ℕ) → i < end → has_column c.columns-one.result i ≡ first_disc v row i) c.self.view_is c.columns-one.ensures.all in
    let two : (i : ℕ) → i < end → has_column c.columns-other.result i ≡ second_disc v row i =
    subst (λ (v : SegmentValue). (i : ℕ) → i < end → has_column c.columns-other.result i ≡ second_disc v row i) c.self.view_is c.columns-other.ensures.all in
    let core = discs-core (covered v row) (first_disc v row) (second_disc v row) (beside v row) c.columns-one.result c.columns-other.result end
    (row-between v.width v.edge row) (parts v row) c.columns-one.ensures.within c.columns-other.ensures.within
    (rw c.joined-discs.ensures at c.if-discs.true) (joined-within c.columns-one.result c.columns-other.result end c.columns-one.ensures.within c.columns-other.ensures.within) one two in
    let none : NothingBetween v.width (apart v.edge.from v.edge.to) =
    subst (λ (v : SegmentValue). NothingBetween v.width (apart v.edge.from v.edge.to)) c.self.view_is (c.self.invariant.plain c.if-self.true) in
    subst (λ (span : Span). (i : ℕ) → i < end → has_column span i ≡ covered v row i) (sym c.joined-discs.ensures)
    (core-all (covered v row) (first_disc v row) (second_disc v row) (joined c.columns-one.result c.columns-other.result) end core
    (λ i. in-discs v.width v.edge (pixel_centre (pos i) (pos row)) none))

pub returns-in-Some-clause-all : goal.returns-in-Some-clause-all
returns-in-Some-clause-all c =
    let v : SegmentValue = c.args.self.now in
    let row = c.args.row in
    let end = c.args.end in
    let one : (i : ℕ) → i < end → has_column c.columns-one.result i ≡ first_disc v row i =
    subst (λ (v : SegmentValue). (i : ℕ) → i < end → has_column c.columns-one.result i ≡ first_disc v row i) c.self.view_is c.columns-one.ensures.all in
    let two : (i : ℕ) → i < end → has_column c.columns-other.result i ≡ second_disc v row i =
    subst (λ (v : SegmentValue). (i : ℕ) → i < end → has_column c.columns-other.result i ≡ second_disc v row i) c.self.view_is c.columns-other.ensures.all in
    let core = beside-core (covered v row) (first_disc v row) (second_disc v row) (beside v row) (joined c.columns-one.result c.columns-other.result) end c.in-Some.column (parts v row)
    (rw c.joined-discs.ensures at c.if-discs.false) (in-joined (first_disc v row) (second_disc v row) c.columns-one.result c.columns-other.result end one two)
    c.in-Some.ensures.within c.in-Some.ensures.some in
    widened-all (covered v row) (first_disc v row) (second_disc v row) (beside v row) (record { from = c.in-Some.column; to = c.in-Some.column + 1 }) c.widened-in-Some.result end
    (row-between v.width v.edge row) (parts v row) core (record {
      before = c.widened-in-Some.ensures.before;
      behind = c.widened-in-Some.ensures.behind;
      within = c.widened-in-Some.ensures.within;
      left = c.widened-in-Some.ensures.left;
      right = c.widened-in-Some.ensures.right;
      first = c.widened-in-Some.ensures.first;
      last = c.widened-in-Some.ensures.last;
    })

pub returns-in-None-clause-all : goal.returns-in-None-clause-all
returns-in-None-clause-all c = λ i less.
    let v : SegmentValue = c.args.self.now in
    let row = c.args.row in
    let end = c.args.end in
    let one : (i : ℕ) → i < end → has_column c.columns-one.result i ≡ first_disc v row i =
    subst (λ (v : SegmentValue). (i : ℕ) → i < end → has_column c.columns-one.result i ≡ first_disc v row i) c.self.view_is c.columns-one.ensures.all in
    let two : (i : ℕ) → i < end → has_column c.columns-other.result i ≡ second_disc v row i =
    subst (λ (v : SegmentValue). (i : ℕ) → i < end → has_column c.columns-other.result i ≡ second_disc v row i) c.self.view_is c.columns-other.ensures.all in
    no-columns i ∙ sym (none-covered (covered v row) (first_disc v row) (second_disc v row) (beside v row) (joined c.columns-one.result c.columns-other.result) end (parts v row)
    (rw c.joined-discs.ensures at c.if-discs.false) (in-joined (first_disc v row) (second_disc v row) c.columns-one.result c.columns-other.result end one two)
    (c.in-None.ensures.none refl) i less)
