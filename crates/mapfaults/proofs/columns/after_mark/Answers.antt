use Rattle.std.proofs.Common.{◌∙◌, sym}
use Rattle.csv.proofs.ReadFacts.{strip-short}
use Rattle.mapfaults.proofs.Marks.{after-mark, without-mark}
use Rattle.mapfaults.proofs.columns.after_mark.Goals as goal

pub returns-in-len3-up : goal.returns-in-len3-up
returns-in-len3-up c = after-mark c.args.bytes.now c.in-len3-up.len_at_least (sym c.is_mark.ensures ∙ c.if-is_mark.true)

pub returns-in_default : goal.returns-in_default
returns-in_default c = sym (strip-short c.args.bytes.now c.in_default.len_below)

pub returns-in_default-2 : goal.returns-in_default-2
returns-in_default-2 c = without-mark c.args.bytes.now c.in-len3-up.len_at_least (sym c.is_mark.ensures ∙ c.if-is_mark.false)
