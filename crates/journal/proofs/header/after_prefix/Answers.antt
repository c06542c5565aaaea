use Rattle.std.proofs.Common.{ℕ, List, length, take, ◌∙◌, ap, refl}
use Rattle.std.proofs.lemmas.List.{take_at}
use Rattle.std.proofs.lemmas.Bool.{iff_false}
use Rattle.journal.proofs.header.after_prefix.Goals as goal

pub returns-then-not-is_equal : goal.returns-then-not-is_equal
returns-then-not-is_equal c rest same =
    iff_false c.is_equal.ensures c.if-not-is_equal.true
    (c.split_at.ensures.front ∙ ap (λ (l : List ℕ). take (length c.args.prefix.now) l) same ∙ take_at c.args.prefix.now rest (length c.args.prefix.now) refl)
