use Rattle.std.proofs.Common.{◌≡◌, ◌∙◌, ◌^◌, false, subst, sym, arith}
use lib.IntN.{pos}
use Rattle.geom.specs.Device.{centre, pixel_centre}
use Rattle.scanfill.proofs.Words.{word}
use Rattle.scanfill.specs.Runs.{has_column}
use Rattle.strokes.specs.Disc.{DiscValue, covers_disc, is_within_half}
use Rattle.strokes.proofs.Discs.{disc-across, disc-down}
use Rattle.strokes.proofs.Marking.{no-column}
use Rattle.strokes.proofs.disc.Disc.rows.Goals as goal

pub returns-then-columns-clause-none : goal.returns-then-columns-clause-none
returns-then-columns-clause-none c = λ i j column row out.
    let s = c.self.inside in
    let within : has_column c.centres_within-columns.result i ≡ is_within_half s.size s.at.x (centre (pos i)) =
    rw (c.x.ensures.value, word (2 ^ 47) s.at.x (omega arith) c.x.ensures.limits.across) at (c.centres_within-columns.ensures.all i column) in
    let none = no-column c.centres_within-columns.result i (omega (arith, c.if-columns.true)) in
    subst (λ (d : DiscValue). covers_disc d (pixel_centre (pos i) (pos j)) ≡ false) c.self.view_is
    (disc-across (record { at = s.at; size = s.size; hole = s.hole }) (centre (pos i)) (centre (pos j)) (sym within ∙ none))

pub returns-clause-none : goal.returns-clause-none
returns-clause-none c = λ i j column row out.
    let s = c.self.inside in
    let within : has_column c.centres_within.result j ≡ is_within_half s.size s.at.y (centre (pos j)) =
    rw (c.y.ensures.value, word (2 ^ 47) s.at.y (omega arith) c.y.ensures.limits.down) at (c.centres_within.ensures.all j row) in
    subst (λ (d : DiscValue). covers_disc d (pixel_centre (pos i) (pos j)) ≡ false) c.self.view_is
    (disc-down (record { at = s.at; size = s.size; hole = s.hole }) (centre (pos i)) (centre (pos j)) (sym within ∙ out))
