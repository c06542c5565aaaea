use Rattle.std.proofs.Common.{ℕ, List, [], refl, subst, ap, sym}
use Rattle.journal.specs.Reading.{StandsForFirst}
use Rattle.journal.specs.Texts.{texts_of}
use Rattle.journal.proofs.Standing.{stands_first}
use Rattle.keepers.specs.Crashes.{StandsWithFirst}
use Rattle.keepers.proofs.Moments.{of_part, started}
use Rattle.journalfile.specs.Keeping.{settled_stands}
use Rattle.journalfile.specs.declared.writing.Journal.{Journal}
use Rattle.journalfile.proofs.keeps.JournalKeeps.keep.Goals as goal

pub returns-then-batches-self-clause-any_moment : goal.returns-then-batches-self-clause-any_moment
returns-then-batches-self-clause-any_moment g c reliable kept has =
    let journal = c.args.self.now in
    started (λ (j : Journal g.row.L.Denot). g.L.Log.moment j.log) (λ (j : Journal g.row.L.Denot). g.L.Log.left_since j.log) journal _
    (λ file left. stands_first journal.name kept (texts_of c.args.batches.now) file
    (settled_stands g.L.Log.content g.L.Log.may_leave journal kept (has reliable).1 file (g.met.L.Log.only_now reliable journal.log file left)))

pub returns-in-Ok-clause-any_moment : goal.returns-in-Ok-clause-any_moment
returns-in-Ok-clause-any_moment g c reliable kept has =
    of_part g.L.Log.moment g.L.Log.left_since (λ (j : Journal g.row.L.Denot). j.log) c.args.self.now c.put.new.self _ _ (c.in-Ok.ensures.any_moment reliable kept (has reliable).1) (λ file stood. stood)

pub returns-in-Err-NoMemory-clause-any_moment : goal.returns-in-Err-NoMemory-clause-any_moment
returns-in-Err-NoMemory-clause-any_moment g c reliable kept has =
    of_part g.L.Log.moment g.L.Log.left_since (λ (j : Journal g.row.L.Denot). j.log) c.args.self.now c.put.new.self _ _ (c.in-Err-NoMemory.ensures.any_moment reliable kept (has reliable).1) (λ file stood. stood)

pub returns-in-Err-Failed-clause-any_moment : goal.returns-in-Err-Failed-clause-any_moment
returns-in-Err-Failed-clause-any_moment g c reliable kept has =
    of_part g.L.Log.moment g.L.Log.left_since (λ (j : Journal g.row.L.Denot). j.log) c.args.self.now c.put.new.self _ _ (c.in-Err-Failed.ensures.any_moment reliable kept (has reliable).1) (λ file stood. stood)
