-- Reading a log in pieces.
use Rattle.std.proofs.Common.{◌≡◌, ℕ, zero, suc, ◌+◌, ◌<◌, ◌≤◌, List, [], ◌∷◌, ◌++◌, length, take, drop, refl, sym, ◌∙◌, ap, subst, arith, append_assoc, length-append, take-append-drop}
use Rattle.std.proofs.lemmas.List.{append-nil, drop-drop, drop_at, length-drop, length-take-le}
use Rattle.journal.specs.Slip.{HasNoEnd}
use Rattle.journalfile.specs.Log.{NoOther, Elapses}
use Rattle.journalfile.specs.Frames.{Ahead, IsAhead, IsPiece, HasAdded, HasTaken, IsRead}
use Rattle.std.specs.Prelude.{true, false, None, Some, Vec}
use Rattle.std.specs.declared.alloc.Global.{Global}
use Rattle.keepers.proofs.Moments.{follows}
use Rattle.journalfile.proofs.Elapsing.{begins}

module _ {L : Type 0} (content : L → List ℕ) (may_leave : L → List ℕ → Type 0) (moment : L → ℕ) (left_since : L → ℕ → List ℕ → Type 0) where
  pub read_once : (old new : L) → ((c : List ℕ) → left_since old (moment old) c → may_leave old c) → content new ≡ content old → NoOther (may_leave old) (may_leave new)
      → Elapses (moment old) (moment new) (left_since old) (left_since new) (may_leave new) → IsRead content may_leave moment left_since old new
  read_once old new now same crash time = record { same = same; crash = crash; any_moment = begins moment left_since old new (may_leave old) (may_leave new) now time crash }

  -- one after another
  pub read_more : (old mid new : L) → IsRead content may_leave moment left_since old mid → IsRead content may_leave moment left_since mid new → IsRead content may_leave moment left_since old new
  read_more old mid new first second = record {
    same = second.same ∙ first.same;
    crash = λ c left. first.crash c (second.crash c left);
    any_moment = follows moment left_since old mid new (may_leave old) (may_leave mid) (may_leave old) first.any_moment second.any_moment (λ c left. left) first.crash;
  }

no_bytes : (bytes : List ℕ) → length bytes ≡ 0 → bytes ≡ []
no_bytes [] none = refl
no_bytes (b ∷ bytes) none = absurd (omega arith)

room_front : (n m : ℕ) (room rest : List ℕ) → n ≤ m → n ≤ length room → take n (take m (room ++ rest)) ≡ take n room
room_front zero m room rest inside within = refl
room_front (suc n) zero room rest inside within = absurd (omega arith)
room_front (suc n) (suc m) [] rest inside within = absurd (omega arith)
room_front (suc n) (suc m) (b ∷ room) rest inside within = ap (λ (l : List ℕ). b ∷ l) (room_front n m room rest (omega arith) (omega arith))

-- a room that is cut
pub room_cut : (new room rest : List ℕ) (n m : ℕ) → new ≡ take n (take m (room ++ rest)) → m ≡ length room → n ≤ length room → new ≡ take n room
room_cut new room rest n m is long within = is ∙ room_front n m room rest (omega (arith, long, within)) within

-- the bytes that a read has put into a room
pub piece_read : (file room : List ℕ) (offset n : ℕ) → n ≤ length room → 0 < length room → take n room ≡ take n (drop offset file) → (n ≡ 0 → 0 < length room → drop offset file ≡ []) → IsPiece file offset (take n room)
piece_read file room offset n within some same end =
    let long : length (take n room) ≡ n = length-take-le n room within in record {
      is = same ∙ ap (λ (k : ℕ). take k (drop offset file)) (sym long);
      end = λ none. end (sym long ∙ ap length none) some;
    }

-- a piece is ahead where nothing was
pub piece_ahead : (file piece bytes : List ℕ) (position : ℕ) → length bytes ≡ 0 → IsAhead file (record { position = position; bytes = bytes }) → IsPiece file position piece → IsAhead file (record { position = position; bytes = piece })
piece_ahead file piece bytes position none ahead read = record {
  inside = ahead.inside;
  begins = sym (take-append-drop (length piece) (drop position file)) ∙ ap (λ (l : List ℕ). l ++ drop (length piece) (drop position file)) (sym read.is) ∙ ap (λ (l : List ℕ). piece ++ l) (drop-drop (length piece) position file);
}

-- some bytes ahead are taken
pub taken : (file front : List ℕ) (old new : Ahead) → IsAhead file old → old.bytes ≡ front ++ new.bytes → new.position ≡ old.position + length front → IsAhead file new × (drop old.position file ≡ front ++ drop new.position file)
taken file front old new ahead split moved = (record { inside = inside; begins = begins }, all ∙ ap (λ (l : List ℕ). front ++ l) (sym left))
  where
    later : List ℕ
    later = drop (old.position + length old.bytes) file

    all : drop old.position file ≡ front ++ (new.bytes ++ later)
    all = ahead.begins ∙ ap (λ (l : List ℕ). l ++ later) split ∙ append_assoc front new.bytes later

    left : drop new.position file ≡ new.bytes ++ later
    left = ap (λ (n : ℕ). drop n file) moved ∙ sym (drop-drop (length front) old.position file) ∙ ap (λ (l : List ℕ). drop (length front) l) all ∙ drop_at front (new.bytes ++ later) (length front) refl

    inside : new.position ≤ length file
    inside = omega (arith, ahead.inside, moved, ap length all, length-drop old.position file, length-append front (new.bytes ++ later))

    begins : drop new.position file ≡ new.bytes ++ drop (new.position + length new.bytes) file
    begins = left ∙ ap (λ (n : ℕ). new.bytes ++ drop n file) (let same : old.position + length old.bytes ≡ new.position + length new.bytes = omega (arith, moved, ap length split, length-append front new.bytes) in same)

no_end_append : (a b : List ℕ) → HasNoEnd a → HasNoEnd b → HasNoEnd (a ++ b)
no_end_append [] b none_a none_b = none_b
no_end_append (c ∷ a) b none_a none_b = (none_a.0, no_end_append a b none_a.1 none_b)

-- the bytes of a frame so far, and those that are left
pub record IsSoFar (file : List ℕ) (old now : Ahead) (frame : List ℕ) : Type 0 where
  pub ahead : IsAhead file now
  pub none : HasNoEnd frame
  pub split : drop old.position file ≡ frame ++ drop now.position file

-- all bytes ahead are added
pub added_all : (file before after : List ℕ) (old now filled new : Ahead) → IsSoFar file old now before → IsAhead file filled → filled.position ≡ now.position → HasAdded before after filled new false → IsSoFar file old new after
added_all file before after old now filled new so_far ahead here (none, is, empty, moved) =
    let step = taken file filled.bytes filled new ahead (sym (append-nil filled.bytes) ∙ ap (λ (l : List ℕ). filled.bytes ++ l) (sym empty)) moved in record {
      ahead = step.0;
      none = subst HasNoEnd (sym is) (no_end_append before filled.bytes so_far.none none);
      split = so_far.split ∙ ap (λ (n : ℕ). before ++ drop n file) (sym here) ∙ ap (λ (l : List ℕ). before ++ l) step.1
          ∙ sym (append_assoc before filled.bytes (drop new.position file)) ∙ ap (λ (l : List ℕ). l ++ drop new.position file) (sym is);
    }

-- the bytes up to an END are added
pub added_end : (file before : List ℕ) (after : Vec ℕ Global) (old now filled new : Ahead) → IsSoFar file old now before → IsAhead file filled → filled.position ≡ now.position → HasAdded before after.items filled new true
    → IsAhead file new × HasTaken file old new (Some after)
added_end file before after old now filled new so_far ahead here (front, none, is, split, moved) =
    let step = taken file (front ++ 192 ∷ []) filled new ahead (split ∙ sym (append_assoc front (192 ∷ []) new.bytes)) (omega (arith, moved, length-append front (192 ∷ []))) in (
      step.0,
      (
        subst HasNoEnd (sym is) (no_end_append before front so_far.none none),
        so_far.split ∙ ap (λ (n : ℕ). before ++ drop n file) (sym here) ∙ ap (λ (l : List ℕ). before ++ l) (step.1 ∙ append_assoc front (192 ∷ []) (drop new.position file))
            ∙ sym (append_assoc before front (192 ∷ drop new.position file)) ∙ ap (λ (l : List ℕ). l ++ 192 ∷ drop new.position file) (sym is),
      ),
    )

-- the file ends without an END
pub added_none : (file frame : List ℕ) (old now : Ahead) (new : Ahead) → IsSoFar file old now frame → new.position ≡ now.position → drop now.position file ≡ [] → HasTaken file old new None
added_none file frame old now new so_far here end = (
  subst HasNoEnd (sym (so_far.split ∙ ap (λ (l : List ℕ). frame ++ l) end ∙ append-nil frame)) so_far.none,
  ap (λ (n : ℕ). drop n file) here ∙ end,
)

-- the bytes that were taken so far, and those that are left
pub record IsTaken (file : List ℕ) (old now : Ahead) (bytes : List ℕ) : Type 0 where
  pub ahead : IsAhead file now
  pub split : drop old.position file ≡ bytes ++ drop now.position file

-- one more byte is taken
pub taken_byte : (file before : List ℕ) (byte : ℕ) (old now filled new : Ahead) → IsTaken file old now before → IsAhead file filled → filled.position ≡ now.position → filled.bytes ≡ byte ∷ new.bytes → new.position ≡ filled.position + 1
    → IsTaken file old new (before ++ byte ∷ [])
taken_byte file before byte old now filled new so_far ahead here split moved =
    let step = taken file (byte ∷ []) filled new ahead split moved in record {
      ahead = step.0;
      split = so_far.split ∙ ap (λ (n : ℕ). before ++ drop n file) (sym here) ∙ ap (λ (l : List ℕ). before ++ l) step.1 ∙ sym (append_assoc before (byte ∷ []) (drop new.position file));
    }
