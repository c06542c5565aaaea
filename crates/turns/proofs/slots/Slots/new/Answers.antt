use Rattle.std.proofs.Common.{◌≡◌, ◌∙◌, ◌∷◌, ◌++◌, [], length, None, ap, arith, length-append}
use Rattle.std.proofs.lemmas.List.Sums.{sum_by-append}
use Rattle.turns.specs.Owed.{owed_at, owed_in_all}
use Rattle.turns.specs.Slots.{at_slot}
use Rattle.turns.proofs.Ranks.{free-more}
use Rattle.turns.proofs.slots.Slots.new.Goals as goal

pub loop-preserved : goal.loop-preserved
loop-preserved g c =
    let (counted, free, none) = c.loop.invariant in
    let items = c.loop.items.items in
    let is : c.push.new.self.items ≡ items ++ None ∷ [] = c.in_ok-push.ensures.items in (
      omega (arith, ap length is, length-append items (None ∷ []), counted),
      (λ slot. ap (λ l. at_slot l slot) is ∙ free-more items free slot),
      ap owed_in_all is ∙ (sum_by-append owed_at items (None ∷ []) ∙ omega (arith, none)),
    )
