use Rattle.std.proofs.Common.{◌≡◌, ℕ, List, [], ◌∷◌, ◌++◌, drop, sym, subst, arith}
use Rattle.std.proofs.lemmas.Bool.{iff_false}
use Rattle.sha2.specs.Sha256.{sha256}
use Rattle.journal.specs.Name.{name_bytes}
use Rattle.journal.specs.Slip.{HasNoEnd}
use Rattle.journal.specs.Reading.{IsRecordFrame}
use Rattle.journal.proofs.Frames.{no_end_torn}
use Rattle.journalfile.specs.Frames.{IsAhead}
use Rattle.journalfile.proofs.Pieces.{read_more}
use Rattle.journalfile.proofs.Searching.{from_first, from_next, found, not_found}
use Rattle.journalfile.proofs.records.contains_record.Goals as goal

pub returns-in_default-clause-within : goal.returns-in_default-clause-within
returns-in_default-clause-within g c reliable =
    let file = g.L.Log.content c.args.log.now in
    let ends : HasNoEnd (drop c.args.frames.now.position file) × (drop c.next_frame.new.self.position file ≡ []) = rw c.in_default.is at c.in_ok-next_frame.ensures.taken reliable in
    (no_end_torn sha256 (name_bytes c.args.name.now) (drop c.args.frames.now.position file) ends.0, ends.1)

pub loop-frame-init : goal.loop-frame-init
loop-frame-init g c = record {
  later = c.in_ok-next_frame.ensures.later;
  ahead = c.in_ok-next_frame.ensures.ahead;
  from = λ reliable.
      let file = g.L.Log.content c.args.log.now in
      let first = c.in-Some.field-0.items in
      let taken : HasNoEnd first × (drop c.args.frames.now.position file ≡ first ++ 192 ∷ drop c.next_frame.new.self.position file) = rw c.in-Some.is at c.in_ok-next_frame.ensures.taken reliable in
      from_first (name_bytes c.args.name.now) (drop c.args.frames.now.position file) first (drop c.next_frame.new.self.position file) taken.0 taken.1;
  read = c.in_ok-next_frame.ensures.read;
}

pub returns-then-branch-clause-within : goal.returns-then-branch-clause-within
returns-then-branch-clause-within g c reliable =
    let file = g.L.Log.content c.args.log.now in
    let now = g.L.Log.content c.loop-frame.log in
    let frame = c.in-Some-2.frame.items in
    let start = c.loop-frame.frames.position in
    let end = c.next_frame-in-loop-frame.new.self.position in
    let taken : HasNoEnd frame × (drop start now ≡ frame ++ 192 ∷ drop end now) = rw c.in-Some-2.is at c.in_ok-frame.ensures.taken reliable in
    let split = subst (λ (f : List ℕ). drop start f ≡ frame ++ 192 ∷ drop end f) (c.loop-frame.invariant.read reliable).same taken.1 in
    found (name_bytes c.args.name.now) (drop c.args.frames.now.position file) (drop start file) frame (drop end file) (c.loop-frame.invariant.from reliable) split
    (subst (IsRecordFrame sha256 (name_bytes c.args.name.now)) c.as_slice.ensures.value (c.in_ok-is_record.ensures.any.0 c.if-branch.true))

pub loop-frame-preserved : goal.loop-frame-preserved
loop-frame-preserved g c =
    let file = g.L.Log.content c.args.log.now in
    let now = g.L.Log.content c.loop-frame.log in
    let frame = c.in-Some-2.frame.items in
    let start = c.loop-frame.frames.position in
    let end = c.next_frame-in-loop-frame.new.self.position in
    record {
      later = omega (arith, c.loop-frame.invariant.later, c.in_ok-frame.ensures.later);
      ahead = λ reliable. subst (λ (f : List ℕ). IsAhead f c.next_frame-in-loop-frame.new.self) (c.loop-frame.invariant.read reliable).same (c.in_ok-frame.ensures.ahead reliable);
      from = λ reliable.
          let taken : HasNoEnd frame × (drop start now ≡ frame ++ 192 ∷ drop end now) = rw c.in-Some-2.is at c.in_ok-frame.ensures.taken reliable in
          let split = subst (λ (f : List ℕ). drop start f ≡ frame ++ 192 ∷ drop end f) (c.loop-frame.invariant.read reliable).same taken.1 in
          from_next (name_bytes c.args.name.now) (drop c.args.frames.now.position file) (drop start file) frame (drop end file) (c.loop-frame.invariant.from reliable) split taken.0
          (λ is. iff_false c.in_ok-is_record.ensures.any c.if-branch.false (subst (IsRecordFrame sha256 (name_bytes c.args.name.now)) (sym c.as_slice.ensures.value) is));
      read = λ reliable. read_more g.L.Log.content g.L.Log.may_leave g.L.Log.moment g.L.Log.left_since c.args.log.now c.loop-frame.log c.next_frame-in-loop-frame.new.log (c.loop-frame.invariant.read reliable) (c.in_ok-frame.ensures.read reliable);
    }

pub returns-clause-within : goal.returns-clause-within
returns-clause-within g c reliable =
    let file = g.L.Log.content c.args.log.now in
    let now = g.L.Log.content c.loop-frame.log in
    let start = c.loop-frame.frames.position in
    let end = c.next_frame-in-loop-frame.new.self.position in
    let ends : HasNoEnd (drop start now) × (drop end now ≡ []) = rw c.in_default-2.is at c.in_ok-frame.ensures.taken reliable in
    let same = subst (λ (f : List ℕ). HasNoEnd (drop start f) × (drop end f ≡ [])) (c.loop-frame.invariant.read reliable).same ends in
    (not_found (name_bytes c.args.name.now) (drop c.args.frames.now.position file) (drop start file) (c.loop-frame.invariant.from reliable) same.0, same.1)
