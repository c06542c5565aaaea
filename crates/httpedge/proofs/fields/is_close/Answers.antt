use Rattle.std.proofs.Common.{◌∙◌, ap, reverse, codes}
use Rattle.httparse.specs.Grammar.{skip_ows, trim_ows}
use Rattle.httpedge.specs.Fields.{is_alike}
use Rattle.httpedge.proofs.fields.is_close.Goals as goal

pub returns : goal.returns
unfolding trim_ows
returns c = c.is_alike.ensures ∙ ap (λ l. is_alike l (codes "close")) (c.trim_end.ensures ∙ ap (λ l. reverse (skip_ows (reverse l))) c.trim_start.ensures)
