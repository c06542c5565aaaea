use Rattle.std.proofs.Common.{◌∙◌, position, slice_set, sym, ap}
use Rattle.compaction.specs.LastChanges.{Changes, changed, is_of}
use Rattle.compaction.specs.declared.last_changes.LastChange.{LastChange}
use Rattle.compaction.proofs.Finding.{set_found, set_new}
use Rattle.compaction.proofs.last_changes.LastChanges.set.Goals as goal

pub returns-in-Some-clause-last : goal.returns-in-Some-clause-last
returns-in-Some-clause-last c =
    ap (λ (x : LastChange). slice_set c.self.inside.last.items c.in-Some.index (record x { count = c.args.count })) c.index_mut.ensures.value
    ∙ set_found c.args.command.now c.args.count c.self.inside.last.items c.in-Some.index c.index_mut.result.now
    (ap (λ (v : Changes). position (is_of c.args.command.now) v.last) c.self.view_is ∙ sym c.index_of.ensures.index ∙ c.in-Some.is)
    ∙ ap (λ (v : Changes). changed c.args.command.now c.args.count v.last) c.self.view_is

pub returns-clause-last : goal.returns-clause-last
returns-clause-last c =
    set_new c.args.command.now c.args.count c.self.inside.last.items c.push.new.self.items c.of.result c.is_switch.result c.in_ok-push.ensures.items
    (c.of.ensures ∙ c.in_ok-name.ensures.items ∙ c.name_of.ensures) c.is_switch.ensures
    (ap (λ (v : Changes). position (is_of c.args.command.now) v.last) c.self.view_is ∙ sym c.index_of.ensures.index ∙ c.in_default.is)
    ∙ ap (λ (v : Changes). changed c.args.command.now c.args.count v.last) c.self.view_is
