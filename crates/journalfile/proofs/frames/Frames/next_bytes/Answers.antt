use Rattle.std.proofs.Common.{◌≡◌, ◌++◌, ◌∷◌, [], ℕ, ◌+◌, List, length, sym, ap, subst, arith, length-append}
use Rattle.journalfile.specs.Frames.{IsAhead}
use Rattle.journalfile.proofs.Pieces.{IsTaken, taken_byte, read_more}
use Rattle.journalfile.proofs.frames.Frames.next_bytes.Goals as goal

pub loop-preserved : goal.loop-preserved
loop-preserved g c =
    let byte = c.take_byte-byte.result in
    let before = c.loop.taken.items in
    let pushed : c.extend_from_slice.new.self.items ≡ before ++ byte ∷ [] = c.in_ok-extend_from_slice.ensures.items in
    let longer : length c.extend_from_slice.new.self.items ≡ length before + 1 = omega (arith, ap length pushed, length-append before (byte ∷ [])) in
    record {
      counted = omega (arith, longer, c.loop.invariant.counted);
      moved = omega (arith, longer, c.loop.invariant.moved, c.in_ok-fill.ensures.position, c.take_byte-byte.ensures.position);
      so_far = λ reliable.
          let file = g.L.Log.content c.args.log.now in
          let ahead : IsAhead file c.fill.new.self = subst (λ (f : List ℕ). IsAhead f c.fill.new.self) (c.loop.invariant.read reliable).same (c.in_ok-fill.ensures.ahead reliable) in
          subst (IsTaken file c.args.self.now c.take_byte-byte.new.self) (sym pushed)
          (taken_byte file before byte c.args.self.now c.loop.self c.fill.new.self c.take_byte-byte.new.self (c.loop.invariant.so_far reliable) ahead c.in_ok-fill.ensures.position c.take_byte-byte.ensures.taken c.take_byte-byte.ensures.position);
      read = λ reliable. read_more g.L.Log.content g.L.Log.may_leave g.L.Log.moment g.L.Log.left_since c.args.log.now c.loop.log c.fill.new.log (c.loop.invariant.read reliable) (c.in_ok-fill.ensures.read reliable);
    }
