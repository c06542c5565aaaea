use Rattle.std.proofs.Common.{rules, ◌∙◌, ◌≤◌, arith}
use Rattle.collide.proofs.Marking.{bit-is, marked-end, marked-next, row-within, written-back}
use Rattle.collide.proofs.marks.Marks.mark.Goals as goal

pub loop-row-preserved : goal.loop-row-preserved
loop-row-preserved c =
    let inv = c.loop-row.invariant in
    let old = c.args.self.now in
    let words = c.loop-row.self.words.items in
    let new = c.set_all.new.words in
    let count = rw c.deref_mut.ensures.value at c.set_all.ensures.count in
    let set = rw (c.deref_mut.ensures.value, inv.columns) at c.set_all.ensures.bits in
    let back = written-back words new c.loop-row.self.words.len count (search rules) in
    rw back (record {
      columns = inv.columns;
      rows = inv.rows;
      count = count ∙ inv.count;
      first = omega (arith, inv.first);
      marked = marked-next old.columns old.rows c.bit_of-left.result c.bit_of-right.result c.bit_of-top.result c.bit_of-bottom.result c.loop-row.row old.words.items words new
          c.bit_of-right.ensures.most inv.first c.loop-row-test.true (rw inv.count c.requires.words) set inv.marked;
    })

pub returns-clause-marked : goal.returns-clause-marked
returns-clause-marked c =
    let inv = c.loop-row.invariant in
    let old = c.args.self.now in
    let l = bit-is _ _ _ _ c.bit_of-left.ensures.value c.left.ensures (search rules) in
    let r = bit-is _ _ _ _ c.bit_of-right.ensures.value c.right.ensures (search rules) in
    let t = bit-is _ _ _ _ c.bit_of-top.ensures.value c.top.ensures (search rules) in
    let b = bit-is _ _ _ _ c.bit_of-bottom.ensures.value c.bottom.ensures (search rules) in
    let past : c.bit_of-bottom.result ≤ c.loop-row.row = omega (arith, c.loop-row-test.false) in
    rw inv.columns (marked-end old.columns old.rows c.loop-row.row c.args.area old.words.items c.loop-row.self.words.items (rw b at past) (rw (l, r, t, b) at inv.marked))

pub set_all-requires : goal.set_all-requires
set_all-requires c =
    let inv = c.loop-row.invariant in
    rw (c.deref_mut.ensures.value, inv.count, inv.columns)
    (row-within c.args.self.now.columns c.args.self.now.rows c.loop-row.row c.bit_of-right.result _ (omega (arith, c.loop-row-test.true, c.bit_of-bottom.ensures.most)) c.bit_of-right.ensures.most c.requires.words)
