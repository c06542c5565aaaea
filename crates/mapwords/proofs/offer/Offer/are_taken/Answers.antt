use Rattle.std.proofs.Common.{lit<, rules}
use Rattle.std.proofs.lemmas.Iterator.Search.{all_from_yields_List}
use Rattle.std.proofs.lemmas.Iterator.Splits.{YieldsList-from_str_split}
use Rattle.mapwords.specs.Offer.{is_taken}
use Rattle.mapwords.proofs.offer.Offer.are_taken.Goals as goal

pub returns : goal.returns
returns c =
    all_from_yields_List (is_taken c.args.self) _ _ c.all.result c.all.ensures.ran
    (YieldsList-from_str_split 32 c.args.text.now (lit< tt) c.split.ensures.text c.split.ensures.has_more c.split.ensures.pattern) (λ x b q. search rules)
