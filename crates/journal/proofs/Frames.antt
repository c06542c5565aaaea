-- Records, and the bytes after them.
use Rattle.std.proofs.Common.{◌≡◌, ◌≢◌, ℕ, List, [], ◌∷◌, ◌++◌, length, refl, sym, ◌∙◌, ap, subst, arith, append_assoc, length-append}
use Rattle.journal.specs.Slip.{stuffed, frame, HasNoEnd}
use Rattle.journal.specs.Record.{sequence_bytes, body, record_of}
use Rattle.journal.specs.Reading.{StartsWithNumber, StartsWithRecord, ContainsRecord, IsTorn}
use Rattle.journal.specs.Law.{IsDigest}
use Rattle.journal.proofs.Stuffing.{stuffed_no_end, same_front, same_stuffed}

pub length-sequence_bytes : (number : ℕ) → length (sequence_bytes number) ≡ 8
unfolding sequence_bytes
length-sequence_bytes number = refl

-- prefixes of one length of one list are equal
pub same_begin : (a b x y : List ℕ) → length a ≡ length b → a ++ x ≡ b ++ y → (a ≡ b) × (x ≡ y)
same_begin [] [] x y long same = (refl, same)
same_begin [] (d ∷ b) x y long same = absurd (omega arith)
same_begin (c ∷ a) [] x y long same = absurd (omega arith)
same_begin (c ∷ a) (d ∷ b) x y long same =
    let rest = same_begin a b x y (omega arith) (cc (same)) in
    (cc (same, rest.0), rest.1)

-- suffixes of one length of one list are equal
pub same_end : (a b x y : List ℕ) → length x ≡ length y → a ++ x ≡ b ++ y → (a ≡ b) × (x ≡ y)
same_end a b x y long same = same_begin a b x y (omega (arith, ap length same, length-append a x, length-append b y)) same

-- a frame before more bytes
pub frame_before : (bytes more : List ℕ) → frame bytes ++ more ≡ 192 ∷ (stuffed bytes ++ 192 ∷ more)
frame_before bytes more = ap (λ (l : List ℕ). 192 ∷ l) (append_assoc (stuffed bytes) (192 ∷ []) more)

-- some bytes begin with one frame only, and have one rest
pub same_frame : (a b x y : List ℕ) → frame a ++ x ≡ frame b ++ y → (a ≡ b) × (x ≡ y)
same_frame a b x y same =
    let whole : 192 ∷ (stuffed a ++ 192 ∷ x) ≡ 192 ∷ (stuffed b ++ 192 ∷ y) = sym (frame_before a x) ∙ same ∙ frame_before b y in
    let fronts = same_front (stuffed a) (stuffed b) x y (stuffed_no_end a) (stuffed_no_end b) (cc (whole)) in
    (same_stuffed a b fronts.0, fronts.1)

-- there is an END in some bytes
pub record Ends (bytes : List ℕ) : Type 0 where
  pub front : List ℕ
  pub more : List ℕ
  pub is : bytes ≡ front ++ 192 ∷ more

pub no_end_ends : (bytes : List ℕ) → HasNoEnd bytes → Ends bytes → ⊥
no_end_ends bytes none ends = absurd (not_in bytes ends.front ends.more none ends.is)
  where
    not_in : (bytes front more : List ℕ) → HasNoEnd bytes → bytes ≡ front ++ 192 ∷ more → ⊥
    not_in [] [] more none is = absurd (cc (is))
    not_in [] (f ∷ front) more none is = absurd (cc (is))
    not_in (b ∷ bytes) [] more none is = let end : b ≡ 192 = cc (is) in absurd (none.0 end)
    not_in (b ∷ bytes) (f ∷ front) more none is = not_in bytes front more none.1 (cc (is))

-- where a frame is cut short, its first END is left at most
pub data CutShort (piece : List ℕ) : Type 0 where
  Nothing : piece ≡ [] → CutShort piece
  First : (rest : List ℕ) → piece ≡ 192 ∷ rest → HasNoEnd rest → CutShort piece

pub cut_frame : (bytes piece missing : List ℕ) → frame bytes ≡ piece ++ missing → missing ≢ [] → CutShort piece
cut_frame bytes [] missing is some = Nothing refl
cut_frame bytes (p ∷ piece) missing is some = First piece (let end : p ≡ 192 = cc (is) in ap (λ (b : ℕ). b ∷ piece) end) (within (stuffed bytes) piece missing (stuffed_no_end bytes) (cc (is)) some)
  where
    within : (a piece missing : List ℕ) → HasNoEnd a → a ++ 192 ∷ [] ≡ piece ++ missing → missing ≢ [] → HasNoEnd piece
    within a [] missing none is some = tt
    within [] (p ∷ piece) [] none is some = absurd (some refl)
    within [] (p ∷ []) (m ∷ missing) none is some = absurd (cc (is))
    within [] (p ∷ q ∷ piece) (m ∷ missing) none is some = absurd (cc (is))
    within (c ∷ a) (p ∷ piece) missing none is some = ((λ e. let end : c ≡ 192 = cc (is, e) in none.0 end), within a piece missing none.1 (cc (is)) some)

-- there is an END at the first or later
pub data Later (front more first rest : List ℕ) : Type 0 where
  Same : more ≡ rest → Later front more first rest
  Further : (between : List ℕ) → rest ≡ between ++ 192 ∷ more → Later front more first rest

pub first_end : (first front rest more : List ℕ) → HasNoEnd first → first ++ 192 ∷ rest ≡ front ++ 192 ∷ more → Later front more first rest
first_end [] [] rest more none same = Same (cc (same))
first_end [] (f ∷ front) rest more none same = Further front (cc (same))
first_end (c ∷ first) [] rest more none same = let end : c ≡ 192 = cc (same) in absurd (none.0 end)
first_end (c ∷ first) (f ∷ front) rest more none same = further (first_end first front rest more none.1 (cc (same)))
  where
    further : Later front more first rest → Later (f ∷ front) more (c ∷ first) rest
    further (Same is) = Same is
    further (Further between is) = Further between is

module _ (digest : List ℕ → List ℕ) (name : List ℕ) where
  -- a record begins with an END, and has another in it
  pub record_is : (bytes : List ℕ) → (has : StartsWithRecord digest name bytes) → bytes ≡ 192 ∷ (stuffed (body digest name has.0 has.1) ++ 192 ∷ has.2)
  record_is bytes has = has.4 ∙ frame_before (body digest name has.0 has.1) has.2

  -- without an END there is no record
  pub no_end_torn : (bytes : List ℕ) → HasNoEnd bytes → IsTorn digest name bytes
  no_end_torn bytes none (front, rest, is, has) =
      no_end_ends bytes none (record { front = front; more = stuffed (body digest name has.0 has.1) ++ 192 ∷ has.2; is = is ∙ ap (λ (l : List ℕ). front ++ l) (record_is rest has) })

  -- with one END, at the start, there is none either
  one_end_torn : (piece front rest bytes : List ℕ) → piece ≡ 192 ∷ bytes → HasNoEnd bytes → piece ≡ front ++ rest → StartsWithRecord digest name rest → ⊥
  one_end_torn piece [] rest bytes is none split has =
      no_end_ends bytes none (record { front = stuffed (body digest name has.0 has.1); more = has.2; is = cc (is, split, record_is rest has) })
  one_end_torn piece (f ∷ front) rest bytes is none split has =
      no_end_torn bytes none (front, rest, cc (is, split), has)

  pub short_torn : (piece : List ℕ) → CutShort piece → IsTorn digest name piece
  short_torn piece (Nothing is) = subst (IsTorn digest name) (sym is) (no_end_torn [] tt)
  short_torn piece (First bytes is none) = λ has. one_end_torn piece has.0 has.1 bytes is none has.2 has.3

  -- where the append of a record stops, no record is left of it
  pub cut_torn : (sequence batch piece missing : List ℕ) → record_of digest name sequence batch ≡ piece ++ missing → missing ≢ [] → IsTorn digest name piece
  cut_torn sequence batch piece missing is some = short_torn piece (cut_frame (body digest name sequence batch) piece missing is some)

  pub number_is_record : (number : ℕ) (bytes : List ℕ) → StartsWithNumber digest name number bytes → StartsWithRecord digest name bytes
  number_is_record number bytes has = (sequence_bytes number, has.0, has.1, length-sequence_bytes number, has.2)

  record_more : (bytes more : List ℕ) → StartsWithRecord digest name bytes → StartsWithRecord digest name (bytes ++ more)
  record_more bytes more has =
      (has.0, has.1, has.2 ++ more, has.3, ap (λ (l : List ℕ). l ++ more) has.4 ∙ append_assoc (record_of digest name has.0 has.1) has.2 more)

  -- a record in some bytes is in more bytes
  pub within_more : (bytes more : List ℕ) → ContainsRecord digest name bytes → ContainsRecord digest name (bytes ++ more)
  within_more bytes more (front, rest, is, has) =
      (front, rest ++ more, ap (λ (l : List ℕ). l ++ more) is ∙ append_assoc front rest more, record_more rest more has)

  -- a record at the start of some bytes is in them
  pub within_front : (bytes : List ℕ) → StartsWithRecord digest name bytes → ContainsRecord digest name bytes
  within_front bytes has = ([], bytes, refl, has)

  -- so a torn end that is cut shorter is still torn
  pub torn_front : (bytes more : List ℕ) → IsTorn digest name (bytes ++ more) → IsTorn digest name bytes
  torn_front bytes more torn has = torn (within_more bytes more has)

  -- the contents of a record have one number and one batch
  pub same_body : IsDigest digest → (p q a b : List ℕ) → length p ≡ length q → stuffed (body digest name p a) ≡ stuffed (body digest name q b) → (p ≡ q) × (a ≡ b)
  same_body is_digest p q a b long same =
      let places = same_begin p q _ _ long (same_stuffed (body digest name p a) (body digest name q b) same) in
      (places.0, (same_end a b _ _ (is_digest _ ∙ sym (is_digest _)) places.1).0)

  -- some bytes begin with one record only, and have one rest
  pub same_recorded : IsDigest digest → (p q a b x y : List ℕ) → length p ≡ length q → record_of digest name p a ++ x ≡ record_of digest name q b ++ y → (p ≡ q) × (a ≡ b) × (x ≡ y)
  same_recorded is_digest p q a b x y long same =
      let frames = same_frame (body digest name p a) (body digest name q b) x y same in
      let places = same_begin p q _ _ long frames.0 in
      let batches = same_end a b _ _ (is_digest _ ∙ sym (is_digest _)) places.1 in
      (places.0, batches.0, frames.1)
