use Rattle.std.proofs.Common.{◌∙◌, ap}
use Rattle.std.proofs.lemmas.List.{with_items_is}
use Rattle.std.specs.List.{count_by}
use Rattle.scanfill.specs.Crossing.{reaches}
use Rattle.scanfill.proofs.crossings.Crossings.next_row.Goals as goal

pub returns-clause-reach : goal.returns-clause-reach
returns-clause-reach c = λ i j h.
    ap (count_by (reaches i j)) (with_items_is c.args.self.now.list c.go_on-self.new.list (c.go_on-self.ensures.width ∙ c.deref_mut.ensures.len))
    ∙ (c.go_on-self.ensures.counts i j h ∙ ap (count_by (reaches i j)) c.deref_mut.ensures.value)
