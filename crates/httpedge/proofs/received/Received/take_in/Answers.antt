use Rattle.std.proofs.Common.{◌≡◌, ◌∙◌, ◌-◌, min, None, length-take-le, ◌<◌, ℕ, List, length, sym, ap, subst, arith, length-append, length-take}
use Rattle.std.specs.List.{list_all}
use Rattle.httpedge.specs.Received.{is_newline}
use Rattle.httpedge.specs.Head.{HasNoHead}
use Rattle.httpedge.specs.Verdict.{IsJudged}
use Rattle.httpedge.proofs.Taking.{taken, open-all, open-headless, open-below, within-all, old-first}
use Rattle.httpedge.proofs.received.Received.take_in.Goals as goal

pub judge-judged-requires-clause-due : goal.judge-judged-requires-clause-due
judge-judged-requires-clause-due c none =
    subst HasNoHead (sym (c.deref.ensures.value ∙ c.add.ensures.items)) (c.is_due-is_due.ensures.headless none)

pub overflow_sub-result : goal.overflow_sub-result
overflow_sub-result c =
    let first = old-first c.args.self.now.bytes.items c.split_at.result.0.now c.add.new.bytes.items c.judge-judged.result _ (c.requires.received.no_head c.requires.open) c.add.ensures.items (subst (λ (l : List ℕ). IsJudged l c.judge-judged.result) c.deref.ensures.value c.judge-judged.ensures).verdict in
    omega (arith, first, c.len-before.ensures)

pub returns-clause-received : goal.returns-clause-received
returns-clause-received c =
    let all = c.add.new.bytes.items in
    let j : IsJudged all c.judge-judged.result = subst (λ (l : List ℕ). IsJudged l c.judge-judged.result) c.deref.ensures.value c.judge-judged.ensures in
    let kept = c.truncate.ensures.items in
    let open-is : c.judge-judged.result.decision ≡ None → c.truncate.new.self.items ≡ all = λ o. kept ∙ open-all all c.judge-judged.result _ j.verdict o in
    record {
      room = omega (arith, c.requires.received.room, c.add.ensures.capacity, c.truncate.ensures.capacity);
      limit = omega (
        arith,
        ap length kept,
        length-take c.judge-judged.result.len all,
        ap length c.add.ensures.items,
        length-append c.args.self.now.bytes.items c.split_at.result.0.now,
        c.split_at.ensures.front_len,
        c.min.ensures,
        c.len-before.ensures,
        c.requires.received.limit,
      );
      blank = λ o e. ap (list_all is_newline) (open-is o ∙ c.add.ensures.items) ∙ c.has_text_with-self.ensures e;
      no_head = λ o. subst HasNoHead (sym (open-is o)) (open-headless all c.judge-judged.result _ j.verdict o);
      below = λ o. subst (λ (l : List ℕ). length l < 16384) (sym (open-is o)) (open-below all c.judge-judged.result _ j.verdict o);
      recent = λ o. (omega (arith, ap length (open-is o), c.len.ensures, c.last_parsed-self.ensures.these), omega (arith, ap length (open-is o), c.len.ensures, c.last_parsed-self.ensures.recent));
      target = (j.target.0, omega (arith, j.target.1, ap length kept, length-take-le c.judge-judged.result.len all (within-all all c.judge-judged.result _ j.verdict)));
    }

pub returns-clause-takes : goal.returns-clause-takes
returns-clause-takes c =
    let n : c.len-before.result ≡ length c.args.self.now.bytes.items = omega (arith, c.len-before.ensures) in
    let j : IsJudged c.add.new.bytes.items c.judge-judged.result = subst (λ (l : List ℕ). IsJudged l c.judge-judged.result) c.deref.ensures.value c.judge-judged.ensures in
    rw n
    (taken c.args.self.now.bytes.items c.args.piece.now c.split_at.result.0.now c.add.new.bytes.items c.truncate.new.self.items c.min.result c.judge-judged.result _
    (c.requires.received.below c.requires.open) (c.min.ensures ∙ ap (λ m. min (length c.args.piece.now) (16384 - m)) n) c.split_at.ensures.front c.add.ensures.items c.truncate.ensures.items (c.requires.received.no_head c.requires.open) j.target j.verdict)
