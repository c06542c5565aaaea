use Rattle.std.proofs.Common.{rules}
use Rattle.std.proofs.lemmas.List.Sorted.{answers_always}
use Rattle.mapdefs.specs.declared.font.Glyph.{Glyph}
use Rattle.bdffont.proofs.Search.{found-glyph, no-glyph}
use Rattle.bdffont.proofs.text.find.Goals as goal

pub returns-in-Ok : goal.returns-in-Ok
returns-in-Ok c =
    let by_encoding = c.binary_search_by_key.ensures.position (λ (glyph : Glyph). glyph.encoding) (answers_always _ _ _ (λ f a r g called. search rules)) in
    found-glyph c.args.glyphs.now c.args.encoding c.in-Ok.index _ c.requires c.in-Ok.ensures.bound (rw c.in-Ok.is at by_encoding) c.index-glyphs-index.is

pub returns-in-Err : goal.returns-in-Err
returns-in-Err c =
    let by_encoding = c.binary_search_by_key.ensures.position (λ (glyph : Glyph). glyph.encoding) (answers_always _ _ _ (λ f a r g called. search rules)) in
    no-glyph c.args.glyphs.now c.args.encoding c.in-Err.field-0 c.requires (rw c.in-Err.is at by_encoding)
