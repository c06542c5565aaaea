use Rattle.std.proofs.Common.{◌≡◌, ◌⊎◌, inl, inr, ℕ, ◌+◌, List, length, take, drop, sym, ◌∙◌, ap, subst, arith, length-append}
use Rattle.std.proofs.lemmas.List.{length-drop}
use Rattle.sha2.specs.Sha256.{sha256}
use Rattle.journal.specs.Name.{name_bytes}
use Rattle.journal.specs.Record.{journal_of}
use Rattle.journal.specs.Reading.{StandsFor, StandAlike}
use Rattle.journal.proofs.Standing.{stands_torn}
use Rattle.journalfile.specs.Steps.{MayCut}
use Rattle.keepers.proofs.Moments.{follows}
use Rattle.journalfile.proofs.Standing.{cut_done, cut_crash}
use Rattle.journalfile.proofs.recovery.open_log.Goals as goal

pub returns-in-Ok-cut_synced-clause-recovered : goal.returns-in-Ok-cut_synced-clause-recovered
returns-in-Ok-cut_synced-clause-recovered g c =
    let name = c.args.name.now in
    let judged = c.in-Ok.ensures.judged in
    let file = g.L.Log.content c.args.log.now in
    let end = c.in-Ok.judged.end in
    let tail = drop end file in
    let ends = λ (reliable : g.L.Log.reliable). let same : end + length tail ≡ length file = omega (arith, judged.ends reliable, length-drop end file) in same in
    let done = λ (reliable : g.L.Log.reliable).
    c.in-Ok-cut_synced.ensures.shortened reliable ∙ (ap (λ (l : List ℕ). take end l) (c.in-Ok.ensures.read reliable).same ∙ cut_done (name_bytes name) judged.batches tail file end (judged.whole reliable) (ends reliable)) in
    record {
      batches = judged.batches;
      counted = judged.counted;
      after = judged.after;
      enough = judged.enough;
      stood = λ reliable. subst (λ (f : List ℕ). StandsFor name f judged.batches) (sym (judged.whole reliable)) (stands_torn name judged.batches tail (judged.torn reliable) judged.enough);
      journal = done;
      durable = c.in-Ok-cut_synced.ensures.durable;
      long = λ reliable. omega (arith, judged.ends reliable, ends reliable, ap length (done reliable), ap length (judged.whole reliable), length-append (journal_of sha256 (name_bytes name) judged.batches) tail);
      cut = λ reliable. omega (arith, judged.ends reliable, ends reliable, ap length (done reliable), ap length (judged.whole reliable), length-append (journal_of sha256 (name_bytes name) judged.batches) tail);
    }

pub returns-in-Ok-cut_synced-clause-any_moment : goal.returns-in-Ok-cut_synced-clause-any_moment
returns-in-Ok-cut_synced-clause-any_moment g c reliable =
    let name = c.args.name.now in
    let judged = c.in-Ok.ensures.judged in
    let file = g.L.Log.content c.args.log.now in
    let end = c.in-Ok.judged.end in
    let ends : end + length (drop end file) ≡ length file = omega (arith, judged.ends reliable, length-drop end file) in
    follows g.L.Log.moment g.L.Log.left_since c.args.log.now c.judge_synced.new.log c.cut_synced.new.log (g.L.Log.may_leave c.args.log.now) (MayCut end (g.L.Log.may_leave c.judge_synced.new.log)) (λ f. g.L.Log.may_leave c.args.log.now f ⊎ StandAlike name file f)
    (c.in-Ok.ensures.read reliable).any_moment (c.in-Ok-cut_synced.ensures.any_moment reliable) (λ f left. inl left)
    (λ f left. inr (cut_crash name (g.L.Log.may_leave c.judge_synced.new.log) judged.batches (drop end file) file f end judged.enough (judged.torn reliable) (judged.whole reliable) ends (c.in-Ok.ensures.durable reliable) left))

pub returns-in-Err-cut_synced-clause-any_moment : goal.returns-in-Err-cut_synced-clause-any_moment
returns-in-Err-cut_synced-clause-any_moment g c reliable =
    let name = c.args.name.now in
    let judged = c.in-Ok.ensures.judged in
    let file = g.L.Log.content c.args.log.now in
    let end = c.in-Ok.judged.end in
    let ends : end + length (drop end file) ≡ length file = omega (arith, judged.ends reliable, length-drop end file) in
    follows g.L.Log.moment g.L.Log.left_since c.args.log.now c.judge_synced.new.log c.cut_synced.new.log (g.L.Log.may_leave c.args.log.now) (MayCut end (g.L.Log.may_leave c.judge_synced.new.log)) (λ f. g.L.Log.may_leave c.args.log.now f ⊎ StandAlike name file f)
    (c.in-Ok.ensures.read reliable).any_moment (c.in-Err-cut_synced.ensures.any_moment reliable) (λ f left. inl left)
    (λ f left. inr (cut_crash name (g.L.Log.may_leave c.judge_synced.new.log) judged.batches (drop end file) file f end judged.enough (judged.torn reliable) (judged.whole reliable) ends (c.in-Ok.ensures.durable reliable) left))
