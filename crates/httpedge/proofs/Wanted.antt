-- Reads that are needed.
use Rattle.std.proofs.Common.{◌≡◌, ◌∙◌, ℕ, ◌<◌, ◌≤◌, zero, suc, inl, inr, Bool, true, false, ◌||◌, ◌==◌, if◌then◌else◌, List, [], ◌∷◌, ◌++◌, length, Option, Some, refl, sym, ap, subst, arith, length-append, append-nil}
use Rattle.std.specs.List.{All, FoldsTo, concat}
use Rattle.std.proofs.lemmas.List.Elements.{All-nil, All-append}
use Rattle.std.proofs.lemmas.List.Folds.{concat-append}
use Rattle.std.proofs.lemmas.Fn.{FoldsTo-push}
use Rattle.std.specs.Io.KnownBytes.{Consumes}
use Rattle.std.proofs.KnownBytes.{Consumes-nil, Consumes-trans}
use Rattle.httpedge.specs.Connection.{LeavesOpen}
use Rattle.std.proofs.lemmas.Bool.Decides.{leb_tells}
use Rattle.httparse.specs.Grammar.{print_request}
use Rattle.httparse.proofs.GrammarLemmas.{ReadsRequest-append, request_unique}
use Rattle.httpedge.specs.Exchange.{Said}
use Rattle.httpedge.specs.Fields.{announces_body, closes}
use Rattle.httpedge.specs.Meaning.{Meaning, Refused, head_meaning}
use Rattle.httpedge.specs.Reads.{Wants, WantsMore}
use Rattle.httpedge.specs.Serving.{HasCome}
use Rattle.httpedge.specs.Turn.{Turn, Last, Further, headless_turn}
use Rattle.httpedge.specs.declared.conn.TheConstants.{REQUESTS}
use Rattle.httpedge.specs.declared.refusal.Refusal.TheVariants.{BadRequest}
use Rattle.httpedge.proofs.Heads.{head-prefix, head-more, nothing-headless}
use Rattle.httpedge.proofs.Serving.{so_far, rest_by}

-- each prefix of bytes that leave a stream open does so
prefixes-leave-open : (prefix more : List ℕ) → LeavesOpen (prefix ++ more) → LeavesOpen prefix
prefixes-leave-open prefix more leaves =
    ((λ head has. leaves.0 head (head-more prefix more head has)), omega (arith, leaves.1, length-append prefix more))

-- a stream without a head has no further turn
no-further : (stream after : List ℕ) (meaning : Meaning) → Further meaning after ≡ headless_turn stream → ⊥
no-further [] after meaning e = cc
no-further (byte ∷ bytes) after meaning e = cc

turn-by : Bool → Bool → Meaning → List ℕ → Turn
turn-by announces ends meaning rest = if announces then Last (Refused BadRequest) else (if ends then Last meaning else Further meaning rest)

-- a further turn has its meaning whatever follows
further-by : (announces ends : Bool) (meaning asked : Meaning) (rest after : List ℕ) → Further meaning after ≡ turn-by announces ends asked rest →
    (after ≡ rest) × ((other : List ℕ) → Further meaning other ≡ turn-by announces ends asked other)
unfolding turn-by
further-by true ends meaning asked rest after e = absurd (cc)
further-by false true meaning asked rest after e = absurd (cc)
further-by false false meaning asked rest after e = let m : meaning ≡ asked = cc in (cc, λ other. ap (λ x. Further x other) m)

-- where a read is needed after some bytes, one was needed after each prefix of them
pub prefixes-want : (n : ℕ) (prefix more : List ℕ) → Wants n (prefix ++ more) → Wants n prefix
unfolding Wants turn-by
prefixes-want zero prefix more wants = wants
prefixes-want (suc n) prefix more (inl leaves) = inl (prefixes-leave-open prefix more leaves)
prefixes-want (suc n) prefix more (inr (meaning, after, inr (none, e), wants)) = absurd (no-further (prefix ++ more) after meaning e)
prefixes-want (suc n) prefix more (inr (meaning, after, inl (head, has, e), wants)) =
    elim (leb_tells (length (print_request head)) (length prefix)) [
      | inl short ↦
          let own = head-prefix prefix more head has short.1 in
          let same = request_unique (prefix ++ more) head head has.rest (own.rest ++ more) has.reads (ReadsRequest-append prefix head own.rest more own.reads) in
          let further = further-by (announces_body head) (closes head || (n == 0)) meaning (head_meaning head) has.rest after e in
          let rest : Wants n (own.rest ++ more) = subst (Wants n) (further.0 ∙ same.1) wants in
          inr (meaning, own.rest, inl (head, own, further.1 own.rest), prefixes-want n own.rest more rest)
      | inr long ↦ inl (
        (λ other own.
            let same = request_unique (prefix ++ more) other head (own.rest ++ more) has.rest (ReadsRequest-append prefix other own.rest more own.reads) has.reads in
            let fits : length (print_request other) ≤ length prefix = omega (arith, ap length own.reads.1, length-append (print_request other) own.rest) in
            omega (arith, long.1, fits, ap (λ h. length (print_request h)) same.0)),
        omega (arith, long.1, has.bytes),
      )
    ]

-- before the first read
pub none-wanted : WantsMore []
unfolding Wants
none-wanted = record {
  some = All-nil (λ piece. 0 < length piece);
  wants = inl (nothing-headless, omega arith);
}

-- where the connection needs a further read, a read is needed
pub wants-now : {A : Type 0} (answers : A → List ℕ → Said → A → Type 0) (n k : ℕ) (read said came : List ℕ) (first now : A) → HasCome answers n (so_far read first said) (rest_by k came now) → 0 < k → LeavesOpen came → Wants n read
unfolding Wants
wants-now answers n zero read said came first now come some leaves = absurd (omega (arith, some))
wants-now answers n (suc k) read said came first now come some leaves =
    let all : came ++ [] ≡ came = append-nil came in
    subst (Wants n) (append-nil read) (come.wanted [] (inl (subst LeavesOpen (sym all) leaves)))

-- one piece that isn't empty
one-some : (piece : List ℕ) → 0 < length piece → All (λ p. 0 < length p) (piece ∷ [])
one-some piece some zero d k = some
one-some piece some (suc n) d k = absurd (omega (arith, k))

pub concat-one : (pieces : List (List ℕ)) (piece : List ℕ) → concat (pieces ++ piece ∷ []) ≡ concat pieces ++ piece
concat-one pieces piece = concat-append pieces (piece ∷ []) ∙ ap (λ l. concat pieces ++ l) (append-nil piece)

-- one read more
pub wanted-more : (pieces : List (List ℕ)) (piece : List ℕ) → WantsMore pieces → 0 < length piece → Wants REQUESTS (concat pieces ++ piece) → WantsMore (pieces ++ piece ∷ [])
wanted-more pieces piece before some wants = record {
  some = All-append (λ p. 0 < length p) pieces (piece ∷ []) before.some (one-some piece some);
  wants = subst (Wants REQUESTS) (sym (concat-one pieces piece)) wants;
}

-- a reader was read so far, by reads that were all needed
pub record HasGoneOn {R : Type 0} (left : R → Option (List ℕ)) (took : R → Option (List ℕ) → R → Type 0) (pieces : List (List ℕ)) (old new : R) : Type 0 where
  pub wanted : WantsMore pieces
  pub reads : FoldsTo (λ reader piece next. took reader (Some piece) next) old pieces new
  pub bytes : Consumes (left old) (left new) (concat pieces)

pub gone-nowhere : {R : Type 0} (left : R → Option (List ℕ)) (took : R → Option (List ℕ) → R → Type 0) (old : R) → HasGoneOn left took [] old old
gone-nowhere left took old = record {
  wanted = none-wanted;
  reads = refl;
  bytes = Consumes-nil (left old);
}

-- by one read more
pub gone-further : {R : Type 0} (left : R → Option (List ℕ)) (took : R → Option (List ℕ) → R → Type 0) (pieces : List (List ℕ)) (piece : List ℕ) (old middle new : R) →
    HasGoneOn left took pieces old middle → took middle (Some piece) new → Consumes (left middle) (left new) piece → 0 < length piece → Wants REQUESTS (concat pieces ++ piece) →
    HasGoneOn left took (pieces ++ piece ∷ []) old new
gone-further {R} left took pieces piece old middle new before once bytes some wants = record {
  wanted = wanted-more pieces piece before.wanted some wants;
  reads = FoldsTo-push (λ (reader : R) (given : List ℕ) (next : R). took reader (Some given) next) old pieces middle piece new before.reads once;
  bytes = subst (Consumes (left old) (left new)) (sym (concat-one pieces piece)) (Consumes-trans (left old) (left middle) (left new) (concat pieces) piece before.bytes bytes);
}
