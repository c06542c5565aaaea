use Rattle.std.proofs.Common.{◌≡◌, ◌≢◌, ℕ, List, [], ◌∷◌, ◌++◌, drop, ◌∙◌, ap, subst, arith}
use Rattle.std.proofs.lemmas.Grind.{common_steps}
use Rattle.sha2.specs.Sha256.{sha256}
use Rattle.journal.specs.Name.{name_bytes}
use Rattle.journal.specs.Slip.{HasNoEnd}
use Rattle.journal.proofs.Framing.{half, not_at_end}
use Rattle.journalfile.proofs.Searching.{decoded}
use Rattle.journalfile.proofs.records.next_record.Goals as goal

pub returns-then-not-is_empty-clause-record : goal.returns-then-not-is_empty-clause-record
returns-then-not-is_empty-clause-record g c reliable =
    let file = g.L.Log.content c.args.log.now in
    let before = c.in-Some.before.items in
    let taken : HasNoEnd before × (drop c.args.frames.now.position file ≡ before ++ 192 ∷ drop c.next_frame.new.self.position file) = rw c.in-Some.is at c.in_ok-before.ensures.taken reliable in
    let some : before ≢ [] = λ empty. grind (arith, common_steps) in
    not_at_end sha256 (name_bytes c.args.name.now) c.args.number (drop c.args.frames.now.position file) before (drop c.next_frame.new.self.position file) some taken.0 taken.1

pub returns-in_default-2-clause-record : goal.returns-in_default-2-clause-record
returns-in_default-2-clause-record g c reliable =
    let file = g.L.Log.content c.args.log.now in
    let before = c.in-Some.before.items in
    let rest = drop c.next_frame.new.self.position file in
    let taken : HasNoEnd before × (drop c.args.frames.now.position file ≡ before ++ 192 ∷ rest) = rw c.in-Some.is at c.in_ok-before.ensures.taken reliable in
    let empty : before ≡ [] = grind (arith, common_steps) in
    let ends : HasNoEnd (drop c.next_frame.new.self.position (g.L.Log.content c.next_frame.new.log)) × (drop c.next_frame-2.new.self.position (g.L.Log.content c.next_frame.new.log) ≡ []) = rw c.in_default-2.is at c.in_ok-frame.ensures.taken reliable in
    half sha256 (name_bytes c.args.name.now) c.args.number (drop c.args.frames.now.position file) rest (taken.1 ∙ ap (λ (l : List ℕ). l ++ 192 ∷ rest) empty)
    (subst (λ (f : List ℕ). HasNoEnd (drop c.next_frame.new.self.position f)) (c.in_ok-before.ensures.read reliable).same ends.0)

pub returns-clause-record : goal.returns-clause-record
returns-clause-record g c reliable =
    let file = g.L.Log.content c.args.log.now in
    let before = c.in-Some.before.items in
    let frame = c.in-Some-2.frame.items in
    let rest = drop c.next_frame-2.new.self.position file in
    let taken : HasNoEnd before × (drop c.args.frames.now.position file ≡ before ++ 192 ∷ drop c.next_frame.new.self.position file) = rw c.in-Some.is at c.in_ok-before.ensures.taken reliable in
    let empty : before ≡ [] = grind (arith, common_steps) in
    let next : HasNoEnd frame × (drop c.next_frame.new.self.position (g.L.Log.content c.next_frame.new.log) ≡ frame ++ 192 ∷ drop c.next_frame-2.new.self.position (g.L.Log.content c.next_frame.new.log)) = rw c.in-Some-2.is at c.in_ok-frame.ensures.taken reliable in
    let split : drop c.next_frame.new.self.position file ≡ frame ++ 192 ∷ rest =
    subst (λ (f : List ℕ). drop c.next_frame.new.self.position f ≡ frame ++ 192 ∷ drop c.next_frame-2.new.self.position f) (c.in_ok-before.ensures.read reliable).same next.1 in
    decoded (name_bytes c.args.name.now) c.args.number (drop c.args.frames.now.position file) frame rest c.in_ok-decode.field-0
    (taken.1 ∙ ap (λ (l : List ℕ). l ++ 192 ∷ drop c.next_frame.new.self.position file) empty ∙ ap (λ (l : List ℕ). 192 ∷ l) split) next.0
    (rw c.as_slice.ensures.value at c.in_ok-decode.ensures.numbered)
