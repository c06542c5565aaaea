use Rattle.std.proofs.Common.{◌≡◌, Some, sym, ◌∙◌, ap}
use Rattle.std.proofs.lemmas.Option.{slice_get-get_or}
use Rattle.std.specs.List.{slice_get}
use Rattle.mapdefs.specs.declared.label.LabelFields.{LabelFields}
use Rattle.labelcache.specs.Placement.{setting}
use Rattle.labelcache.proofs.Steps.{priority-is, step-skip, step-tries}
use Rattle.labelcache.proofs.order.place_number.Goals as goal

pub returns-then-label-turn : goal.returns-then-label-turn
returns-then-label-turn c =
    let x = c.index-candidates-turn.result in
    let is : slice_get c.args.candidates.now c.args.turn.number ≡ Some x = slice_get-get_or c.args.candidates.now c.args.turn.number x c.requires.number ∙ ap Some (sym c.index-candidates-turn.is) in
    let t = c.if-label-turn.true in
    step-skip (setting c.args.page.now c.args.candidates.now) c.args.turn.priority c.args.turn.number c.args.placing.now c.requires.placed (λ e. t (ap (λ (l : LabelFields). l.priority) c.label.ensures.value ∙ (sym (priority-is c.args.candidates.now c.args.turn.number x is) ∙ e)))

pub returns : goal.returns
returns c =
    let x = c.index-candidates-turn.result in
    let is : slice_get c.args.candidates.now c.args.turn.number ≡ Some x = slice_get-get_or c.args.candidates.now c.args.turn.number x c.requires.number ∙ ap Some (sym c.index-candidates-turn.is) in
    let t = c.if-label-turn.false in
    let r = c.in_ok-try_candidate.ensures in
    step-tries (setting c.args.page.now c.args.candidates.now) c.args.turn.priority c.args.turn.number x c.args.placing.now _ c.requires.placed is (ap (λ (l : LabelFields). l.priority) (sym c.label.ensures.value) ∙ t) r
