use Rattle.std.proofs.Common.{map}
use Rattle.form_urlencoded.specs.Parse.{pairs_left}
use Rattle.wmsquery.specs.Pairs.{pair_of, pairs_of, texts_of}
use Rattle.wmsquery.proofs.Slots.{HaveTexts}
use Rattle.wmsquery.proofs.texts.ParameterTexts.of_query.Given as goal

abbrev pub invariant-loop-pair : goal.invariant-loop-pair
invariant-loop-pair l = HaveTexts l.texts (map pair_of (pairs_left l.pair-iterator)) (texts_of (pairs_of l.fn.query))
