use Rattle.std.proofs.Common.{◌≡◌, ◌∙◌, drop, sym, ap, subst}
use mathlib.Core.List.{IsPrefix}
use Rattle.mapshare.specs.Replica.{shape_of, IsMade}
use Rattle.mapshare.proofs.Chains.{chain_begins, chain_made, chain_prefix, ok_from}
use Rattle.mapshare.proofs.Seeing.{moves}
use Rattle.mapshare.proofs.admin.show_all.Goals as goal

pub publish_as-requires : goal.publish_as-requires
publish_as-requires g c =
    let w = c.args.writer in
    let opening = g.S.Sharing.opening in
    let waiting = drop w.behind w.log.items in
    λ next same.
    let prefix : next.prefix ≡ c.args.last.now = ap (λ s. s.batches) same ∙ chain_prefix opening (shape_of w.desk.shown.value) waiting c.args.last.now c.requires.chain in
    let begins = subst (IsPrefix w.desk.shown.value.prefix) (sym prefix) (chain_begins opening w.desk.shown.value.prefix waiting c.args.last.now c.requires.chain) in
    moves opening _ _ w.desk.shown.value next begins (λ made. subst (IsMade opening) (sym same) (chain_made opening (shape_of w.desk.shown.value) waiting c.args.last.now c.requires.chain made))

pub returns-clause-prefix : goal.returns-clause-prefix
returns-clause-prefix g c =
    let w = c.args.writer in
    ok_from c.publish_as.result.1 _ _ _ c.publish_as.ensures.values (λ t v. ap (λ s. s.batches) v.0 ∙ chain_prefix g.S.Sharing.opening (shape_of w.desk.shown.value) (drop w.behind w.log.items) c.args.last.now c.requires.chain)
