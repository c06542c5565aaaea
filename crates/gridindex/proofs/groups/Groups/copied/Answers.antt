use Rattle.std.proofs.Common.{◌≡◌, refl}
use Rattle.gridindex.proofs.Covering.{kept-same}
use Rattle.gridindex.proofs.groups.Groups.copied.Goals as goal

pub returns : goal.returns
returns c =
    let order : c.extend_from_slice.new.self.items ≡ c.args.self.now.order.items = rw (c.in_ok-order.ensures.items, c.deref.ensures.value) at c.in_ok-extend_from_slice.ensures.items in
    kept-same c.args.self.now _ order refl (rw c.deref-2.ensures.value at c.in_ok-copied.ensures)
