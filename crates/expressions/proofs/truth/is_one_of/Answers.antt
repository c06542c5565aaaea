use Rattle.std.proofs.Common.{lit<, rules}
use Rattle.std.proofs.lemmas.Iterator.Search.{any_from_yields_List}
use Rattle.std.proofs.lemmas.Iterator.Splits.{YieldsList-from_str_split}
use Rattle.mapdefs.specs.Name.{is_same_name}
use Rattle.expressions.proofs.truth.is_one_of.Goals as goal

pub returns : goal.returns
returns c =
    any_from_yields_List (λ part. is_same_name part c.args.text.now) _ _ c.any.result c.any.ensures.ran
    (YieldsList-from_str_split 44 c.args.list.now (lit< tt) c.split.ensures.text c.split.ensures.has_more c.split.ensures.pattern) (λ x b q. search rules)
