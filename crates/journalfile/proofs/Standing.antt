-- The batches that a file stands for after an append or a cut.
use Rattle.std.proofs.Common.{◌≡◌, ◌⊎◌, inl, inr, ℕ, ◌+◌, ◌≤◌, List, [], ◌∷◌, ◌++◌, length, take, sym, ◌∙◌, ap, subst, arith, length-append}
use Rattle.std.proofs.lemmas.List.{append-nil, take_at}
use mathlib.Core.List.{IsPrefix}
use Rattle.sha2.specs.Sha256.{sha256}
use Rattle.sha2.proofs.Facts256.{length-sha256}
use Rattle.journal.specs.Name.{name_bytes, written_of}
use Rattle.journal.specs.Record.{records, journal_of}
use Rattle.journal.specs.Reading.{IsTorn, StandsFor, StandsForFirst, StandAlike}
use Rattle.journal.specs.declared.name.JournalName.{JournalName}
use Rattle.journal.proofs.Readings.{Overlaps, overlap}
use Rattle.journal.proofs.Readings.Overlaps.{Within, Beyond}
use Rattle.journal.proofs.Frames.{torn_front}
use Rattle.journal.proofs.Standing.{stands, stands_first, stands_torn, stops_at}
use Rattle.journalfile.specs.Log.{Torn, Cut}
use Rattle.journalfile.specs.Settled.{GarblesNoRecord}
use Rattle.journalfile.specs.Steps.{MayCut}

module _ (name : JournalName) where
  abbrev bytes : List ℕ
  bytes = name_bytes name

  abbrev Enough : List (List ℕ) → Type 0
  Enough batches = written_of name.compaction ≤ length batches

  -- the bytes that a crash leaves of the append of records
  pub add_crash : (garbled : List ℕ → Type 0) → GarblesNoRecord garbled (name_bytes name) → (batches more : List (List ℕ)) (c : List ℕ) → written_of name.compaction ≤ length batches
      → Torn garbled (records sha256 (name_bytes name) (length batches + 1) more) (journal_of sha256 (name_bytes name) batches) c → StandsForFirst name batches more c
  add_crash garbled shown batches more c enough (left, is, how) = subst (StandsForFirst name batches more) (sym is) (by how)
    where
      by : IsPrefix left (records sha256 bytes (length batches + 1) more) ⊎ garbled left → StandsForFirst name batches more (journal_of sha256 bytes batches ++ left)
      by (inl first) = stops_at name batches more left first.0 enough first.1
      by (inr garbled) = stands_first name batches more (journal_of sha256 bytes batches ++ left) (stands_torn name batches left (shown left garbled) enough)

  keeps_by : (batches : List (List ℕ)) (tail c rest : List ℕ) → Enough batches → IsTorn sha256 bytes tail → length (journal_of sha256 bytes batches) ≤ length c
      → Overlaps sha256 bytes length-sha256 c rest (journal_of sha256 bytes batches) tail → StandsFor name c batches
  keeps_by batches tail c rest enough torn long (Within more some is split) =
      subst (λ (file : List ℕ). StandsFor name file batches) (sym is) (stands_torn name batches more (torn_front sha256 bytes more rest (subst (IsTorn sha256 bytes) split torn)) enough)
  keeps_by batches tail c rest enough torn long (Beyond [] is split) =
      subst (λ (file : List ℕ). StandsFor name file batches) (is ∙ append-nil c) (stands name batches enough)
  keeps_by batches tail c rest enough torn long (Beyond (m ∷ more) is split) = absurd (omega (arith, ap length is, length-append c (m ∷ more)))

  -- any cut of a torn end leaves the batches
  pub cut_keeps : (batches : List (List ℕ)) (tail file c : List ℕ) (end : ℕ) → written_of name.compaction ≤ length batches → IsTorn sha256 (name_bytes name) tail
      → file ≡ journal_of sha256 (name_bytes name) batches ++ tail → end + length tail ≡ length file → Cut end file c → StandsFor name c batches
  cut_keeps batches tail file c end enough torn is ends cut =
      let J = journal_of sha256 bytes batches in
      let long : length J ≤ length c = omega (arith, cut.no_shorter, ends, ap length is, length-append J tail) in
      keeps_by batches tail c cut.front.0 enough torn long (overlap sha256 bytes length-sha256 c cut.front.0 J tail (cut.front.1 ∙ is))

  -- the bytes that a crash may leave of the cut of a torn end
  pub cut_crash : (may_leave : List ℕ → Type 0) (batches : List (List ℕ)) (tail file c : List ℕ) (end : ℕ) → written_of name.compaction ≤ length batches → IsTorn sha256 (name_bytes name) tail
      → file ≡ journal_of sha256 (name_bytes name) batches ++ tail → end + length tail ≡ length file → ((f : List ℕ) → may_leave f → f ≡ file) → MayCut end may_leave c → StandAlike name file c
  cut_crash may_leave batches tail file c end enough torn is ends only (inl now) =
      let here = subst (λ (f : List ℕ). StandsFor name f batches) (sym is) (stands_torn name batches tail torn enough) in
      (batches, here, subst (λ (f : List ℕ). StandsFor name f batches) (sym (only c now)) here)
  cut_crash may_leave batches tail file c end enough torn is ends only (inr (d, left, cut)) =
      let here = subst (λ (f : List ℕ). StandsFor name f batches) (sym is) (stands_torn name batches tail torn enough) in
      (batches, here, cut_keeps batches tail file c end enough torn is ends (subst (λ (f : List ℕ). Cut end f c) (only d left) cut))

-- the end of the cut
pub cut_done : (name : List ℕ) (batches : List (List ℕ)) (tail file : List ℕ) (end : ℕ) → file ≡ journal_of sha256 name batches ++ tail → end + length tail ≡ length file → take end file ≡ journal_of sha256 name batches
cut_done name batches tail file end is ends =
    let J = journal_of sha256 name batches in
    ap (λ (l : List ℕ). take end l) is ∙ take_at J tail end (omega (arith, ends, ap length is, length-append J tail))
