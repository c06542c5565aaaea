-- The records that a reader has left, one after the other.
use Rattle.std.proofs.Common.{Bor, ◌≡◌, ◌≤◌, ◌<◌, ◌+◌, ◌-◌, ℕ, zero, suc, Bool, true, false, List, [], ◌∷◌, length, Option, None, Some, refl, ap, sym, arith, ◌∙◌, inl}
use Rattle.std.specs.Prelude.{◌==◌, ◌&&◌}
use Rattle.std.proofs.lemmas.Bool.{false≢true}
use Rattle.csv.specs.Machine.{Read, after_end, ends_at_end, ends_with, field_after, fields_after, in_field, is_byte, is_end, next_record, start_field, start_record, step}
use Rattle.csv.specs.Reading.{NextIs, ReadRecord, ReadsNext, default_config, pending_of, records_from, records_next, source_of}
use Rattle.csv.specs.declared.parser.Config.{Config}
use Rattle.csv.specs.declared.parser.State.{State}
use Rattle.csv.specs.declared.parser.State.TheVariants as st
use Rattle.csv.specs.declared.parser.Terminator.{Terminator}
use Rattle.csv.specs.declared.parser.Terminator.TheVariants as term
use Rattle.csv.specs.declared.reader.Reader.{Reader}
use Rattle.csvpoints.specs.Source.{Found, IsReading, left}

-- one more than a count
pub one-more : (n : ℕ) → n + 1 ≡ suc n
one-more n = omega arith

-- the state after a record's end is between records
after-between : (t : Terminator) (c : ℕ) → ends_at_end (after_end t c) ≡ false
after-between term.CRLF c = by (c == 13) refl
  where
    by : (b : Bool) → (c == 13) ≡ b → ends_at_end (after_end term.CRLF c) ≡ false
    by true e = rw e refl
    by false e = rw e refl
after-between (term.Any t) c = refl

field-between : (cfg : Config) (c : ℕ) → is_end (in_field cfg c).1 ≡ true → ends_at_end (in_field cfg c).0 ≡ false
field-between cfg c = by (c == cfg.delimiter) refl (ends_with cfg.terminator c) refl
  where
    by : (d : Bool) → (c == cfg.delimiter) ≡ d → (t : Bool) → ends_with cfg.terminator c ≡ t →
        is_end (in_field cfg c).1 ≡ true → ends_at_end (in_field cfg c).0 ≡ false
    by true e t g h = absurd (false≢true (rw e at h))
    by false e true g h = rw (e, g) (after-between cfg.terminator c)
    by false e false g h = absurd (false≢true (rw (e, g) at h))

start-between : (cfg : Config) (c : ℕ) → is_end (start_field cfg c).1 ≡ true → ends_at_end (start_field cfg c).0 ≡ false
start-between cfg c = by (cfg.quoting && (c == cfg.quote)) refl
  where
    by : (q : Bool) → (cfg.quoting && (c == cfg.quote)) ≡ q → is_end (start_field cfg c).1 ≡ true → ends_at_end (start_field cfg c).0 ≡ false
    by true e h = absurd (false≢true (rw e at h))
    by false e h = rw e (field-between cfg c (rw e at h))

record-between : (cfg : Config) (c : ℕ) → is_end (start_record cfg c).1 ≡ true → ends_at_end (start_record cfg c).0 ≡ false
record-between cfg c = by (ends_with cfg.terminator c) refl (is_byte cfg.comment c) refl
  where
    by : (t : Bool) → ends_with cfg.terminator c ≡ t → (m : Bool) → is_byte cfg.comment c ≡ m →
        is_end (start_record cfg c).1 ≡ true → ends_at_end (start_record cfg c).0 ≡ false
    by true e m g h = absurd (false≢true (rw e at h))
    by false e true g h = absurd (false≢true (rw (e, g) at h))
    by false e false g h = rw (e, g) ((rw e at (start-between cfg c)) (rw (e, g) at h))

quoted-goes_on : (cfg : Config) (c : ℕ) → is_end (step cfg st.InQuoted c).1 ≡ true → ends_at_end (step cfg st.InQuoted c).0 ≡ false
quoted-goes_on cfg c = by (cfg.quoting && (c == cfg.quote)) refl (cfg.quoting && is_byte cfg.escape c) refl
  where
    by : (q : Bool) → (cfg.quoting && (c == cfg.quote)) ≡ q → (x : Bool) → (cfg.quoting && is_byte cfg.escape c) ≡ x →
        is_end (step cfg st.InQuoted c).1 ≡ true → ends_at_end (step cfg st.InQuoted c).0 ≡ false
    by true e x g h = absurd (false≢true (rw e at h))
    by false e true g h = absurd (false≢true (rw (e, g) at h))
    by false e false g h = absurd (false≢true (rw (e, g) at h))

quote-between : (cfg : Config) (c : ℕ) → is_end (step cfg st.AfterQuote c).1 ≡ true → ends_at_end (step cfg st.AfterQuote c).0 ≡ false
quote-between cfg c = by (cfg.quoting && cfg.double_quote && (c == cfg.quote)) refl
  where
    by : (q : Bool) → (cfg.quoting && cfg.double_quote && (c == cfg.quote)) ≡ q →
        is_end (step cfg st.AfterQuote c).1 ≡ true → ends_at_end (step cfg st.AfterQuote c).0 ≡ false
    by true e h = absurd (false≢true (rw e at h))
    by false e h = rw e (field-between cfg c (rw e at h))

comment-goes_on : (cfg : Config) (c : ℕ) → is_end (step cfg st.InComment c).1 ≡ true → ends_at_end (step cfg st.InComment c).0 ≡ false
comment-goes_on cfg c = by (c == 10) refl
  where
    by : (b : Bool) → (c == 10) ≡ b → is_end (step cfg st.InComment c).1 ≡ true → ends_at_end (step cfg st.InComment c).0 ≡ false
    by true e h = absurd (false≢true (rw e at h))
    by false e h = absurd (false≢true (rw e at h))

return-between : (cfg : Config) (c : ℕ) → is_end (step cfg st.AfterCr c).1 ≡ true → ends_at_end (step cfg st.AfterCr c).0 ≡ false
return-between cfg c = by (c == 10) refl
  where
    by : (b : Bool) → (c == 10) ≡ b → is_end (step cfg st.AfterCr c).1 ≡ true → ends_at_end (step cfg st.AfterCr c).0 ≡ false
    by true e h = absurd (false≢true (rw e at h))
    by false e h = rw e (record-between cfg c (rw e at h))

-- a byte that ends a record leaves a state between two records
step-between : (cfg : Config) (s : State) (c : ℕ) → is_end (step cfg s c).1 ≡ true → ends_at_end (step cfg s c).0 ≡ false
step-between cfg st.StartRecord c h = record-between cfg c h
step-between cfg st.StartField c h = start-between cfg c h
step-between cfg st.InField c h = field-between cfg c h
step-between cfg st.InQuoted c h = quoted-goes_on cfg c h
step-between cfg st.AfterQuote c h = quote-between cfg c h
step-between cfg st.InEscape c h = absurd (false≢true h)
step-between cfg st.InComment c h = comment-goes_on cfg c h
step-between cfg st.AfterCr c h = return-between cfg c h

-- what is left after a record that was read: a state between records, and fewer bytes
abbrev pub Shorter : Option Read → List ℕ → Type 0
Shorter None xs = Unit {0}
Shorter (Some p) xs = (ends_at_end p.1 ≡ false) × (length p.2 ≤ length xs - 1)

shorter-more : (o : Option Read) (c : ℕ) (rest : List ℕ) → Shorter o rest → Shorter o (c ∷ rest)
shorter-more None c rest h = tt
shorter-more (Some p) c rest h = let (b, l) = h in (b, omega arith)

read-shorter : (cfg : Config) (s : State) (fields : List (List ℕ)) (field xs : List ℕ) → Shorter (next_record cfg s fields field xs) xs
unfolding next_record
read-shorter cfg s fields field [] = by (ends_at_end s) refl
  where
    by : (b : Bool) → ends_at_end s ≡ b → Shorter (next_record cfg s fields field []) []
    by true e = rw e (refl, omega arith)
    by false e = rw e tt
read-shorter cfg s fields field (c ∷ rest) =
    by (is_end (step cfg s c).1) refl (read-shorter cfg (step cfg s c).0 (fields_after (step cfg s c).1 fields field) (field_after (step cfg s c).1 c field) rest)
  where
    by : (b : Bool) → is_end (step cfg s c).1 ≡ b →
        Shorter (next_record cfg (step cfg s c).0 (fields_after (step cfg s c).1 fields field) (field_after (step cfg s c).1 c field) rest) rest →
        Shorter (next_record cfg s fields field (c ∷ rest)) (c ∷ rest)
    by true e more = rw e (step-between cfg s c e, omega arith)
    by false e more = rw e (shorter-more _ c rest more)

-- between two records, where no bytes are left, no record is
none-left : (cfg : Config) (s : State) → ends_at_end s ≡ false → next_record cfg s [] [] [] ≡ None
unfolding next_record
none-left cfg s e = rw e refl

-- a count above that of the bytes is enough for all records
records-enough : (cfg : Config) (n m : ℕ) (s : State) (xs : List ℕ) → ends_at_end s ≡ false → length xs < n → length xs < m →
    records_from cfg n s xs ≡ records_from cfg m s xs
unfolding records_from
records-enough cfg zero m s xs e a b = absurd (omega arith)
records-enough cfg (suc n) zero s xs e a b = absurd (omega arith)
records-enough cfg (suc n) (suc m) s [] e a b = rw (none-left cfg s e) refl
records-enough cfg (suc n) (suc m) s (c ∷ rest) e a b =
    by (next_record cfg s [] [] (c ∷ rest)) (read-shorter cfg s [] [] (c ∷ rest)) (λ t ys. records-enough cfg n m t ys)
  where
    by : (o : Option Read) → Shorter o (c ∷ rest) →
        ((t : State) (ys : List ℕ) → ends_at_end t ≡ false → length ys < n → length ys < m → records_from cfg n t ys ≡ records_from cfg m t ys) →
        records_next (records_from cfg n) o ≡ records_next (records_from cfg m) o
    by None h more = refl
    by (Some p) h more = let (between, fewer) = h in ap (λ (l : List (List (List ℕ))). p.0 ∷ l) (more p.1 p.2 between (omega arith) (omega arith))

-- a record that was found is the first of those from there, and the others come after it
abbrev pub Goes : State → List ℕ → Option (List ℕ) → List (List ℕ) → State → Type 0
Goes s xs after fields t = (ys : List ℕ) × (after ≡ Some ys) × (ends_at_end t ≡ false)
    × (records_from default_config (suc (length xs)) s xs ≡ fields ∷ records_from default_config (suc (length ys)) t ys)

some-goes : (s t : State) (c : ℕ) (rest ys : List ℕ) (fields : List (List ℕ)) (p : Read) → next_record default_config s [] [] (c ∷ rest) ≡ Some p →
    (ends_at_end p.1 ≡ false) × (length p.2 ≤ length (c ∷ rest) - 1) → fields ≡ p.0 → t ≡ p.1 → ys ≡ p.2 →
    Goes s (c ∷ rest) (Some ys) fields t
unfolding records_from
some-goes s t c rest ys fields p found h f g k =
    let (between, fewer) = h in
    rw (f, g, k) (
      p.2,
      refl,
      between,
      rw found (ap (λ (l : List (List (List ℕ))). p.0 ∷ l) (records-enough default_config (suc (length rest)) (suc (length p.2)) p.1 p.2 between (omega arith) (omega arith))),
    )

found-goes : (s t : State) (xs : List ℕ) (after : Option (List ℕ)) (fields : List (List ℕ)) → ends_at_end s ≡ false →
    ReadsNext default_config s (Some xs) after true fields t → Goes s xs after fields t
found-goes s t xs None fields e r = absurd r
found-goes s t [] (Some ys) fields e r = absurd (false≢true (sym (rw (none-left default_config s e) at r)))
found-goes s t (c ∷ rest) (Some ys) fields e r =
    by (next_record default_config s [] [] (c ∷ rest)) refl (read-shorter default_config s [] [] (c ∷ rest)) r
  where
    by : (o : Option Read) → next_record default_config s [] [] (c ∷ rest) ≡ o → Shorter o (c ∷ rest) → NextIs o true fields t ys →
        Goes s (c ∷ rest) (Some ys) fields t
    by None q h n = absurd (false≢true (sym n))
    by (Some p) q h n = some-goes s t c rest ys fields p q h n.1 n.2 n.3

-- where no record was found none was left
none-found : (s t : State) (xs : List ℕ) (after : Option (List ℕ)) (fields : List (List ℕ)) →
    ReadsNext default_config s (Some xs) after false fields t → records_from default_config (suc (length xs)) s xs ≡ []
unfolding records_from
none-found s t xs None fields r = absurd r
none-found s t xs (Some ys) fields r = by (next_record default_config s [] [] xs) refl r
  where
    by : (o : Option Read) → next_record default_config s [] [] xs ≡ o → NextIs o false fields t ys →
        records_next (records_from default_config (length xs)) (next_record default_config s [] [] xs) ≡ []
    by None q n = rw q refl
    by (Some p) q n = absurd (false≢true n.0)

-- one step of a reader
pub read-found : (found : Bool) (fields : List (List ℕ)) (a b : Reader (Bor (List ℕ))) → IsReading a → b.first ≡ true →
    ReadRecord (λ (s : Bor (List ℕ)). Some s.now) a b found fields → Found found fields a b
unfolding left
read-found true fields a b is begun r =
    let next = rw (is.config, is.known) at r.0 in
    let (ys, after, between, all) = found-goes a.state b.state is.bytes (pending_of (Some b.rdr.now) b) fields is.between next in
    let known : source_of (λ (s : Bor (List ℕ)). Some s.now) b ≡ Some ys = rw r.1 after in (
      rw (is.known, known) all,
      record { config = r.2 ∙ is.config; untrimmed = r.3 ∙ is.untrimmed; ready = inl begun; between = between; bytes = ys; known = known },
    )
read-found false fields a b is begun r =
    let next = rw (is.config, is.known) at r.0 in
    rw is.known (none-found a.state b.state is.bytes (pending_of (Some b.rdr.now) b) fields next)
