use Rattle.std.proofs.Common.{◌∙◌, position, sym, ap}
use Rattle.compaction.specs.LastChanges.{Changes, is_of, last_noted}
use Rattle.compaction.specs.declared.last_changes.LastChange.{LastChange}
use Rattle.compaction.proofs.Finding.{find_none, find_noted}
use Rattle.compaction.proofs.last_changes.LastChanges.last_undoing.Goals as goal

pub returns-in-Some : goal.returns-in-Some
returns-in-Some c =
    ap (λ (x : LastChange). x.count) c.index.ensures
    ∙ find_noted c.args.command.now c.self.inside.last.items c.in-Some.index c.index.result.now
    (ap (λ (v : Changes). position (is_of c.args.command.now) v.last) c.self.view_is ∙ sym c.index_of.ensures.index ∙ c.in-Some.is)
    ∙ ap (λ (v : Changes). last_noted c.args.command.now v.last) c.self.view_is

pub returns-in-None : goal.returns-in-None
returns-in-None c = sym (find_none c.args.command.now c.args.self.now.last (sym c.index_of.ensures.index ∙ c.in-None.is))
