-- Heads of streams: where they end, and which bytes have none.
use Rattle.std.proofs.Common.{◌≡◌, ◌∙◌, Bool, ℕ, ◌<◌, ◌≤◌, inl, inr, List, [], ◌∷◌, ◌++◌, true, false, length, take, drop, refl, sym, ap, arith, append_assoc, length-append, take-append-drop}
use Rattle.std.specs.List.{list_any, list_all, flat_map}
use Rattle.std.proofs.lemmas.List.{take-append-le, drop-append-le}
use Rattle.std.proofs.lemmas.List.Folds.{list_any-append, list_all-append}
use Rattle.std.proofs.lemmas.Bool.Decides.{leb_tells}
use Rattle.std.proofs.Math.Bool.{and-false, or-true}
use Rattle.std.proofs.Math.Seq.{take-append_seam, drop-append_seam}
use Rattle.httparse.specs.Grammar.{RequestHead, LineEnd, crlf, lf, print_end, print_blank, print_version, print_field, print_section, print_request}
use Rattle.httparse.specs.Spans.{RequestOverflows}
use Rattle.httparse.proofs.GrammarLemmas.{ReadsRequest-append, print_request-append, request_unique}
use Rattle.httpedge.specs.Received.{is_line_feed, is_newline}
use Rattle.httpedge.specs.Head.{HasHead, HasNoHead}
use Rattle.httpedge.specs.Meaning.{Refused}
use Rattle.httpedge.specs.Turn.{Turn, IsTurn, AlwaysTurns}
use Rattle.httpedge.specs.declared.refusal.Refusal.TheVariants.{BadRequest}

-- the end of a line ends in LF
line-ends : (prefix : List ℕ) (last : LineEnd) → (x : List ℕ) × (prefix ++ print_end last ≡ x ++ 10 ∷ [])
line-ends prefix crlf = (prefix ++ 13 ∷ [], sym (append_assoc prefix (13 ∷ []) (10 ∷ [])))
line-ends prefix lf = (prefix, refl)

section-ends : (p f : List ℕ) (last : LineEnd) → (x : List ℕ) × (p ++ (f ++ print_end last) ≡ x ++ 10 ∷ [])
section-ends p f last = let (x, e) = line-ends (p ++ f) last in (x, sym (append_assoc p f (print_end last)) ∙ e)

-- a head ends in LF
head-ends : (head : RequestHead) → (x : List ℕ) × (print_request head ≡ x ++ 10 ∷ [])
unfolding print_request
head-ends head = section-ends _ (flat_map print_field head.fields) head.last

-- a list with a space isn't blank
space-between : (a b c : List ℕ) → list_all is_newline (a ++ (b ++ 32 ∷ c)) ≡ false
space-between a b c =
    rw (list_all-append is_newline a (b ++ 32 ∷ c), list_all-append is_newline b (32 ∷ c), and-false (list_all is_newline b)) (and-false (list_all is_newline a))

-- a head isn't blank
head-not-blank : (head : RequestHead) (rest : List ℕ) → list_all is_newline (print_request head ++ rest) ≡ false
head-not-blank head rest = rw (print_request-append head rest) (space-between (print_blank head.blank) head.method (head.target ++ 32 ∷ (print_version head.minor ++ (print_end head.line_end ++ (print_section head.fields head.last ++ rest)))))

-- bytes that are blank have no head
pub blank-headless : (bytes : List ℕ) → list_all is_newline bytes ≡ true → HasNoHead bytes
blank-headless bytes blank head has =
    let e : false ≡ true = sym (head-not-blank head has.rest) ∙ ap (list_all is_newline) (sym has.reads.1) ∙ blank in cc

-- a head that isn't longer than the prefix of a stream is the head of the prefix
pub head-prefix : (a b : List ℕ) (head : RequestHead) → HasHead (a ++ b) head → length (print_request head) ≤ length a → HasHead a head
head-prefix a b head has short =
    let p = print_request head in
    let prefix : take (length p) a ≡ p = sym (take-append-le (length p) a b short) ∙ ap (take (length p)) has.reads.1 ∙ take-append_seam p has.rest in
    record {
      rest = drop (length p) a;
      reads = (has.reads.0, sym (take-append-drop (length p) a) ∙ ap (λ l. l ++ drop (length p) a) prefix);
      bytes = has.bytes;
      fields = has.fields;
    }

-- the head of a prefix of a stream is the head of the stream
unfoldable pub head-more : (a b : List ℕ) (head : RequestHead) → HasHead a head → HasHead (a ++ b) head
head-more a b head has = record {
  rest = has.rest ++ b;
  reads = ReadsRequest-append a head has.rest b has.reads;
  bytes = has.bytes;
  fields = has.fields;
}

-- so many bytes without a head begin no stream that has one
pub full-headless : (a b : List ℕ) → length a ≡ 16384 → HasNoHead a → HasNoHead (a ++ b)
full-headless a b full none head has = none head (head-prefix a b head has (omega (arith, full, has.bytes)))

-- a head that ends in a piece has an LF there
head-in-piece : (a b : List ℕ) (head : RequestHead) → HasHead (a ++ b) head → length a < length (print_request head) → list_any is_line_feed b ≡ true
head-in-piece a b head has long =
    let (x, e) = head-ends head in
    let n : length a ≤ length x = omega (arith, long, ap length e, length-append x (10 ∷ [])) in
    let all : a ++ b ≡ x ++ (10 ∷ has.rest) = has.reads.1 ∙ ap (λ l. l ++ has.rest) e ∙ append_assoc x (10 ∷ []) has.rest in
    let piece : b ≡ drop (length a) x ++ (10 ∷ has.rest) = sym (drop-append_seam a b) ∙ ap (drop (length a)) all ∙ drop-append-le (length a) x (10 ∷ has.rest) n in
    rw (piece, list_any-append is_line_feed (drop (length a) x) (10 ∷ has.rest)) (or-true (list_any is_line_feed (drop (length a) x)))

-- a piece in which no line ends brings no head
pub piece-headless : (a b : List ℕ) → HasNoHead a → list_any is_line_feed b ≡ false → HasNoHead (a ++ b)
piece-headless a b none line head has =
    elim (leb_tells (length (print_request head)) (length a)) [
      | inl short ↦ none head (head-prefix a b head has short.1)
      | inr long ↦ let e : true ≡ false = sym (head-in-piece a b head has long.1) ∙ line in cc
    ]

-- bytes without a head, whatever follows, are refused
pub always-refused : (a : List ℕ) → 0 < length a → ((more : List ℕ) → HasNoHead (a ++ more)) → (is-last : Bool) → AlwaysTurns is-last a true (Refused BadRequest)
always-refused [] some none is-last more = absurd (omega arith)
always-refused (b ∷ bs) some none is-last more = inr (none more, refl)

pub always-full : (a : List ℕ) → length a ≡ 16384 → HasNoHead a → (is-last : Bool) → AlwaysTurns is-last a true (Refused BadRequest)
always-full a full none = always-refused a (omega (arith, full)) (λ more. full-headless a more full none)

pub always-overflow : (a : List ℕ) → 0 < length a → RequestOverflows 64 a → (is-last : Bool) → AlwaysTurns is-last a true (Refused BadRequest)
always-overflow a some over =
    always-refused a some (λ more head has. let n : 64 < length head.fields = over more head has.rest has.reads in let f = has.fields in omega arith)

-- a stream has one turn
pub turn-is-one : (is-last : Bool) (rest : List ℕ) (a b : Turn) → IsTurn is-last rest a → IsTurn is-last rest b → a ≡ b
turn-is-one is-last rest a b (inl x) (inl y) =
    let same = request_unique rest x.0 y.0 x.1.rest y.1.rest x.1.reads y.1.reads in
    x.2 ∙ rw (same.0, same.1) refl ∙ sym y.2
turn-is-one is-last rest a b (inl x) (inr y) = absurd (y.0 x.0 x.1)
turn-is-one is-last rest a b (inr x) (inl y) = absurd (x.0 y.0 y.1)
turn-is-one is-last rest a b (inr x) (inr y) = x.1 ∙ sym y.1

-- no bytes have no head
pub nothing-headless : HasNoHead []
nothing-headless = blank-headless [] refl
