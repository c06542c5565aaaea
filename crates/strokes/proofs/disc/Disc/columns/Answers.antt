use Rattle.std.proofs.Common.{◌≡◌, ◌^◌, ◌||◌, subst, arith}
use Rattle.std.proofs.lemmas.Int.{ints}
use Rattle.std.specs.Prelude.{int_le}
use lib.IntN.{ℤ, pos, ◌-ℤ◌}
use mir.Syntax.{w64}
use mir.Val.{to_z, of_z}
use Rattle.geom.specs.Device.{pixel_centre}
use Rattle.geom.specs.Range.{IsBelow}
use Rattle.scanfill.proofs.Words.{word}
use Rattle.scanfill.specs.Runs.{has_column}
use Rattle.strokes.specs.Disc.{DiscValue, covers_disc}
use Rattle.strokes.specs.Round.{apart, square_of_half}
use Rattle.strokes.proofs.Discs.{disc-row}
use Rattle.strokes.proofs.disc.Disc.columns.Goals as goal

-- the limit of what lies in the hole
one-less : (s t : ℤ) → s ≡ t → IsBelow (2 ^ 27) s → to_z w64 (of_z w64 (to_z w64 (of_z w64 s) -ℤ pos 1)) ≡ t -ℤ pos 1
one-less s t e h = omega (arith, ints, e)

pub returns-clause-all : goal.returns-clause-all
returns-clause-all c = λ i less.
    let s = c.self.inside in
    let p = pixel_centre (pos i) (pos c.args.row) in
    let size : has_column c.columns_within-disc.result i ≡ int_le (apart s.at p) (square_of_half s.size) =
    rw (word (2 ^ 27) c.square_of_half.result (omega arith) c.square_of_half.ensures.range, c.square_of_half.ensures.value) at (c.columns_within-disc.ensures.all i less) in
    let hole : has_column c.columns_within-hole.result i ≡ int_le (apart s.at p) (square_of_half s.hole -ℤ pos 1) =
    rw (one-less c.square_of_half-2.result (square_of_half s.hole) c.square_of_half-2.ensures.value c.square_of_half-2.ensures.range) at (c.columns_within-hole.ensures.all i less) in
    subst (λ (d : DiscValue). (has_column c.without.result.0 i || has_column c.without.result.1 i) ≡ covers_disc d p) c.self.view_is
    (disc-row (record { at = s.at; size = s.size; hole = s.hole }) p (has_column c.without.result.0 i) (has_column c.without.result.1 i)
    (has_column c.columns_within-disc.result i) (has_column c.columns_within-hole.result i) (c.without.ensures.all i) size hole)
