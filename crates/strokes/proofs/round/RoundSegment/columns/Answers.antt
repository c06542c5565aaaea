use Rattle.std.proofs.Common.{◌≡◌, ◌∙◌, ℕ, ◌<◌, ◌&&◌, ap, sym, subst}
use lib.IntN.{pos}
use Rattle.geom.specs.Device.{pixel_centre}
use Rattle.geom.specs.Edge.{EdgeEnds}
use Rattle.scanfill.specs.declared.span.Span.{Span}
use Rattle.scanfill.specs.Runs.{has_column}
use Rattle.strokes.specs.Round.{covers_round, is_abreast, is_close, is_round, joined}
use Rattle.strokes.specs.Segment.{SegmentValue}
use Rattle.strokes.proofs.Rounded.{covers-parts, row-between, three-joined}
use Rattle.strokes.proofs.round.RoundSegment.columns.Goals as goal

pub returns-clause-all : goal.returns-clause-all
returns-clause-all c = λ i less.
    let s = c.self.inside in
    let e : EdgeEnds = record { from = s.from; to = s.to } in
    let beside = subst (λ (v : SegmentValue). (i : ℕ) → i < c.args.end → has_column c.beside_columns.result i ≡
    (is_abreast v.edge (pixel_centre (pos i) (pos c.args.row)) && is_close v.width v.edge (pixel_centre (pos i) (pos c.args.row)))) (sym c.self.view_is) c.beside_columns.ensures.all in
    let all = three-joined
    (λ i. covers_round s.width e (pixel_centre (pos i) (pos c.args.row)))
    (λ i. is_round s.width e.from (pixel_centre (pos i) (pos c.args.row)))
    (λ i. is_round s.width e.to (pixel_centre (pos i) (pos c.args.row)))
    (λ i. is_abreast e (pixel_centre (pos i) (pos c.args.row)) && is_close s.width e (pixel_centre (pos i) (pos c.args.row)))
    c.disc_columns-one.result c.disc_columns-other.result c.beside_columns.result c.args.end
    (row-between s.width e c.args.row)
    (λ i. covers-parts s.width e (pixel_centre (pos i) (pos c.args.row)))
    c.disc_columns-one.ensures.within c.disc_columns-other.ensures.within c.beside_columns.ensures.within
    c.disc_columns-one.ensures.all c.disc_columns-other.ensures.all
    beside i less in
    let span : c.joined-2.result ≡ joined (joined c.disc_columns-one.result c.disc_columns-other.result) c.beside_columns.result =
    c.joined-2.ensures ∙ ap (λ (a : Span). joined a c.beside_columns.result) c.joined.ensures in
    subst (λ (v : SegmentValue). has_column c.joined-2.result i ≡ covers_round v.width v.edge (pixel_centre (pos i) (pos c.args.row))) c.self.view_is
    (ap (λ (a : Span). has_column a i) span ∙ all)
