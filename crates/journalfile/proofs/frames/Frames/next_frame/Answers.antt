use Rattle.std.proofs.Common.{ℕ, List, length, ap, subst, arith, length-append}
use Rattle.std.specs.Prelude.{true, false}
use Rattle.journalfile.specs.Frames.{IsAhead, HasAdded}
use Rattle.journalfile.proofs.Pieces.{added_all, added_end, read_more}
use Rattle.journalfile.proofs.frames.Frames.next_frame.Goals as goal

pub returns-then-branch-2-clause-ahead : goal.returns-then-branch-2-clause-ahead
returns-then-branch-2-clause-ahead g c reliable =
    let added : HasAdded c.loop-frame.frame.items c.take_up_to_end.new.frame.items c.fill.new.self c.take_up_to_end.new.self true = subst (HasAdded c.loop-frame.frame.items c.take_up_to_end.new.frame.items c.fill.new.self c.take_up_to_end.new.self) c.if-branch-2.true c.in_ok-take_up_to_end.ensures.added in
    let ahead : IsAhead (g.L.Log.content c.args.log.now) c.fill.new.self = subst (λ (f : List ℕ). IsAhead f c.fill.new.self) (c.loop-frame.invariant.read reliable).same (c.in_ok-fill.ensures.ahead reliable) in
    (added_end (g.L.Log.content c.args.log.now) c.loop-frame.frame.items c.take_up_to_end.new.frame c.args.self.now c.loop-frame.self c.fill.new.self c.take_up_to_end.new.self (c.loop-frame.invariant.so_far reliable) ahead c.in_ok-fill.ensures.position added).0

pub returns-then-branch-2-clause-taken : goal.returns-then-branch-2-clause-taken
returns-then-branch-2-clause-taken g c reliable =
    let added : HasAdded c.loop-frame.frame.items c.take_up_to_end.new.frame.items c.fill.new.self c.take_up_to_end.new.self true = subst (HasAdded c.loop-frame.frame.items c.take_up_to_end.new.frame.items c.fill.new.self c.take_up_to_end.new.self) c.if-branch-2.true c.in_ok-take_up_to_end.ensures.added in
    let ahead : IsAhead (g.L.Log.content c.args.log.now) c.fill.new.self = subst (λ (f : List ℕ). IsAhead f c.fill.new.self) (c.loop-frame.invariant.read reliable).same (c.in_ok-fill.ensures.ahead reliable) in
    (added_end (g.L.Log.content c.args.log.now) c.loop-frame.frame.items c.take_up_to_end.new.frame c.args.self.now c.loop-frame.self c.fill.new.self c.take_up_to_end.new.self (c.loop-frame.invariant.so_far reliable) ahead c.in_ok-fill.ensures.position added).1

pub loop-frame-preserved : goal.loop-frame-preserved
loop-frame-preserved g c =
    let added : HasAdded c.loop-frame.frame.items c.take_up_to_end.new.frame.items c.fill.new.self c.take_up_to_end.new.self false = subst (HasAdded c.loop-frame.frame.items c.take_up_to_end.new.frame.items c.fill.new.self c.take_up_to_end.new.self) c.if-branch-2.false c.in_ok-take_up_to_end.ensures.added in
    record {
      moved = omega (arith, c.loop-frame.invariant.moved, c.in_ok-fill.ensures.position, added.3, ap length added.1, length-append c.loop-frame.frame.items c.fill.new.self.bytes);
      so_far = λ reliable.
          let ahead : IsAhead (g.L.Log.content c.args.log.now) c.fill.new.self = subst (λ (f : List ℕ). IsAhead f c.fill.new.self) (c.loop-frame.invariant.read reliable).same (c.in_ok-fill.ensures.ahead reliable) in
          added_all (g.L.Log.content c.args.log.now) c.loop-frame.frame.items c.take_up_to_end.new.frame.items c.args.self.now c.loop-frame.self c.fill.new.self c.take_up_to_end.new.self (c.loop-frame.invariant.so_far reliable) ahead c.in_ok-fill.ensures.position added;
      read = λ reliable. read_more g.L.Log.content g.L.Log.may_leave g.L.Log.moment g.L.Log.left_since c.args.log.now c.loop-frame.log c.fill.new.log (c.loop-frame.invariant.read reliable) (c.in_ok-fill.ensures.read reliable);
    }
