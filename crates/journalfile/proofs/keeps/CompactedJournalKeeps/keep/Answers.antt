use Rattle.std.proofs.Common.{ℕ, List, [], ◌++◌, refl, sym, ap, subst}
use Rattle.std.proofs.lemmas.List.{append-nil}
use mathlib.Core.List.{IsPrefix}
use Rattle.journal.specs.Name.{name_bytes}
use Rattle.journal.specs.Reading.{StandsForFirst}
use Rattle.journal.specs.Texts.{texts_of}
use Rattle.journalfile.specs.Keeping.{FileHas, kept_stands}
use Rattle.keepers.proofs.Moments.{follows, of_part, started}
use Rattle.journalfile.specs.declared.checkpoint.CompactedJournal.{CompactedJournal}
use Rattle.journalfile.proofs.Succeeding.{first_has, more_has}
use Rattle.journalfile.proofs.keeps.CompactedJournalKeeps.keep.Goals as goal

-- the log of a journal
abbrev log_of : (L : Type 0) → CompactedJournal L → L
log_of L compacted = compacted.journal.log

pub returns-then-batches-self-clause-any_moment : goal.returns-then-batches-self-clause-any_moment
returns-then-batches-self-clause-any_moment g c reliable kept has =
    let journal = c.args.self.now.journal in
    started (λ (k : CompactedJournal g.row.L.Denot). g.L.Log.moment k.journal.log) (λ (k : CompactedJournal g.row.L.Denot). g.L.Log.left_since k.journal.log) c.args.self.now _
    (λ file left.
    let here = kept_stands g.L.Log.content g.L.Log.may_leave journal kept (has reliable).1 file (g.met.L.Log.only_now reliable journal.log file left) in
    ([], (texts_of c.args.batches.now, refl), subst (FileHas journal.name.fingerprint file) (sym (append-nil kept)) here))

pub put-requires-clause-recognised : goal.put-requires-clause-recognised
put-requires-clause-recognised g c reliable = (c.requires.ready.1 reliable).0 (name_bytes c.args.self.now.journal.name)

pub returns-in-Err-NoMemory-clause-any_moment : goal.returns-in-Err-NoMemory-clause-any_moment
returns-in-Err-NoMemory-clause-any_moment g c reliable kept has =
    let all = (has reliable).1 in
    of_part g.L.Log.moment g.L.Log.left_since (log_of g.row.L.Denot) c.args.self.now (record c.args.self.now { journal = c.put.new.self }) _ _
    (c.in-Err-NoMemory.ensures.any_moment reliable all.own all.settled)
    (first_has g.L.Log.content g.L.Log.may_leave c.args.self.now.journal kept (texts_of c.args.batches.now) all)

pub returns-in-Err-Failed-clause-any_moment : goal.returns-in-Err-Failed-clause-any_moment
returns-in-Err-Failed-clause-any_moment g c reliable kept has =
    let all = (has reliable).1 in
    of_part g.L.Log.moment g.L.Log.left_since (log_of g.row.L.Denot) c.args.self.now (record c.args.self.now { journal = c.put.new.self }) _ _
    (c.in-Err-Failed.ensures.any_moment reliable all.own all.settled)
    (first_has g.L.Log.content g.L.Log.may_leave c.args.self.now.journal kept (texts_of c.args.batches.now) all)

pub returns-in-Ok-compact_where_due-clause-kept : goal.returns-in-Ok-compact_where_due-clause-kept
returns-in-Ok-compact_where_due-clause-kept g c kept has reliable =
    let old = c.args.self.now.journal in
    let more = texts_of c.args.batches.now in
    let all = (has reliable).1 in
    let grown = more_has g.L.Log.content g.L.Log.may_leave old c.put.new.self kept more all (c.in-Ok.ensures.kept reliable all.own all.settled) c.in-Ok.ensures.name in
    ((has reliable).0, c.in-Ok-compact_where_due.ensures.has reliable (kept ++ more) grown)

pub returns-in-Ok-compact_where_due-clause-any_moment : goal.returns-in-Ok-compact_where_due-clause-any_moment
returns-in-Ok-compact_where_due-clause-any_moment g c reliable kept has =
    let old = c.args.self.now.journal in
    let all = (has reliable).1 in
    let more = texts_of c.args.batches.now in
    let grown = more_has g.L.Log.content g.L.Log.may_leave old c.put.new.self kept more all (c.in-Ok.ensures.kept reliable all.own all.settled) c.in-Ok.ensures.name in
    of_part g.L.Log.moment g.L.Log.left_since (log_of g.row.L.Denot) c.args.self.now c.compact_where_due.new.self _ _
    (follows g.L.Log.moment g.L.Log.left_since old.log c.put.new.self.log c.compact_where_due.new.self.journal.log
    (StandsForFirst old.name all.own more)
    (λ (f : List ℕ). FileHas c.put.new.self.name.fingerprint f (kept ++ more))
    (λ (f : List ℕ). (first : List (List ℕ)) × IsPrefix first more × FileHas old.name.fingerprint f (kept ++ first))
    (c.in-Ok.ensures.any_moment reliable all.own all.settled)
    (c.in-Ok-compact_where_due.ensures.any_moment reliable (kept ++ more) grown)
    (first_has g.L.Log.content g.L.Log.may_leave old kept more all)
    (λ f is. (more, ([], append-nil more), subst (λ n. FileHas n f (kept ++ more)) (ap (λ n. n.fingerprint) c.in-Ok.ensures.name) is))) (λ file stood. stood)

pub returns-in-Err-clause-any_moment : goal.returns-in-Err-clause-any_moment
returns-in-Err-clause-any_moment g c reliable kept has =
    let old = c.args.self.now.journal in
    let all = (has reliable).1 in
    let more = texts_of c.args.batches.now in
    let grown = more_has g.L.Log.content g.L.Log.may_leave old c.put.new.self kept more all (c.in-Ok.ensures.kept reliable all.own all.settled) c.in-Ok.ensures.name in
    of_part g.L.Log.moment g.L.Log.left_since (log_of g.row.L.Denot) c.args.self.now c.compact_where_due.new.self _ _
    (follows g.L.Log.moment g.L.Log.left_since old.log c.put.new.self.log c.compact_where_due.new.self.journal.log
    (StandsForFirst old.name all.own more)
    (λ (f : List ℕ). FileHas c.put.new.self.name.fingerprint f (kept ++ more))
    (λ (f : List ℕ). (first : List (List ℕ)) × IsPrefix first more × FileHas old.name.fingerprint f (kept ++ first))
    (c.in-Ok.ensures.any_moment reliable all.own all.settled)
    (c.in-Err.ensures.any_moment reliable (kept ++ more) grown)
    (first_has g.L.Log.content g.L.Log.may_leave old kept more all)
    (λ f is. (more, ([], append-nil more), subst (λ n. FileHas n f (kept ++ more)) (ap (λ n. n.fingerprint) c.in-Ok.ensures.name) is))) (λ file stood. stood)
