use Rattle.std.proofs.Common.{rules}
use Rattle.std.proofs.lemmas.List.Sorted.{IsNonDecreasingBy-from_sort_by_key, answers_always}
use Rattle.mapdefs.specs.declared.font.Glyph.{Glyph}
use Rattle.bdffont.proofs.Firsts.{sorted-firsts}
use Rattle.bdffont.proofs.glyphs.by_encoding.Goals as goal

pub firsts-requires : goal.firsts-requires
firsts-requires c = IsNonDecreasingBy-from_sort_by_key (λ (glyph : Glyph). glyph.encoding) _ c.in_ok-sort_by_key.ensures.sorted (λ a r q k. search rules)

pub returns-clause-firsts : goal.returns-clause-firsts
returns-clause-firsts c =
    let stable = c.in_ok-sort_by_key.ensures.stable (λ (glyph : Glyph). glyph.encoding) (answers_always _ _ _ (λ f a r g h. search rules)) in
    sorted-firsts _ _ _ stable c.in_ok-firsts.ensures.firsts
