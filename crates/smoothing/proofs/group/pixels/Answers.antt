use Rattle.std.proofs.Common.{◌∙◌, ◌∷◌, [], List, ap}
use Rattle.mapdefs.specs.declared.rgba.Rgba.{Rgba}
use Rattle.smoothing.specs.Fine.{pixel_at}
use Rattle.smoothing.proofs.Grouping.{block-shares, four-same, four-smoothed}
use Rattle.smoothing.proofs.group.pixels.Goals as goal

pub returns-then-is_plain : goal.returns-then-is_plain
returns-then-is_plain g c =
    let four = λ (x : Rgba). let made : List Rgba = x ∷ x ∷ x ∷ x ∷ [] in made in
    ap four c.rgba.ensures ∙ four-same g.row.N g.row.W (pixel_at c.args.fine.now c.args.width) c.args.column c.index-fine-saturating_sub.result c.requires.some c.requires.group (c.is_plain.ensures c.if-is_plain.true)

pub whole_means-requires-clause-a : goal.whole_means-requires-clause-a
whole_means-requires-clause-a g c = (block-shares g.row.N _ c.group_sums-sums.result.a c.requires.factor c.group_sums-sums.ensures.a, c.is_whole.ensures.a c.if-is_whole.true)

pub means-requires-clause-a : goal.means-requires-clause-a
means-requires-clause-a g c = block-shares g.row.N _ c.group_sums-sums.result.a c.requires.factor c.group_sums-sums.ensures.a

pub whole_means-requires-clause-b : goal.whole_means-requires-clause-b
whole_means-requires-clause-b g c = (block-shares g.row.N _ c.group_sums-sums.result.b c.requires.factor c.group_sums-sums.ensures.b, c.is_whole.ensures.b c.if-is_whole.true)

pub means-requires-clause-b : goal.means-requires-clause-b
means-requires-clause-b g c = block-shares g.row.N _ c.group_sums-sums.result.b c.requires.factor c.group_sums-sums.ensures.b

pub whole_means-requires-clause-c : goal.whole_means-requires-clause-c
whole_means-requires-clause-c g c = (block-shares g.row.N _ c.group_sums-sums.result.c c.requires.factor c.group_sums-sums.ensures.c, c.is_whole.ensures.c c.if-is_whole.true)

pub means-requires-clause-c : goal.means-requires-clause-c
means-requires-clause-c g c = block-shares g.row.N _ c.group_sums-sums.result.c c.requires.factor c.group_sums-sums.ensures.c

pub whole_means-requires-clause-d : goal.whole_means-requires-clause-d
whole_means-requires-clause-d g c = (block-shares g.row.N _ c.group_sums-sums.result.d c.requires.factor c.group_sums-sums.ensures.d, c.is_whole.ensures.d c.if-is_whole.true)

pub means-requires-clause-d : goal.means-requires-clause-d
means-requires-clause-d g c = block-shares g.row.N _ c.group_sums-sums.result.d c.requires.factor c.group_sums-sums.ensures.d

pub returns-then-is_whole : goal.returns-then-is_whole
returns-then-is_whole g c =
    let are = c.group_sums-sums.ensures in
    c.whole_means.ensures _ _ _ _ are.a are.b are.c are.d ∙ four-smoothed g.row.N (pixel_at c.args.fine.now c.args.width) c.args.column

pub returns-else-is_whole : goal.returns-else-is_whole
returns-else-is_whole g c =
    let are = c.group_sums-sums.ensures in
    c.means.ensures _ _ _ _ are.a are.b are.c are.d ∙ four-smoothed g.row.N (pixel_at c.args.fine.now c.args.width) c.args.column
