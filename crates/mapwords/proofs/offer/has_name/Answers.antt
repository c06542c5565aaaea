use Rattle.std.proofs.Common.{lit<, rules}
use Rattle.std.proofs.lemmas.Iterator.Search.{any_from_yields_List}
use Rattle.std.proofs.lemmas.Iterator.Splits.{YieldsList-from_str_split}
use Rattle.mapdefs.specs.Name.{is_same_name}
use Rattle.mapwords.proofs.offer.has_name.Goals as goal

pub returns : goal.returns
returns c =
    any_from_yields_List (is_same_name c.args.name.now) _ _ c.any.result c.any.ensures.ran
    (YieldsList-from_str_split 32 c.args.text.now (lit< tt) c.split.ensures.text c.split.ensures.has_more c.split.ensures.pattern) (λ x b q. search rules)
