-- Balanced bytes, and the bracket that closes them.
use Rattle.std.proofs.Common.{◌≡◌, ◌≢◌, ℕ, zero, suc, ◌+◌, ◌-◌, ◌<◌, ◌≤◌, Bool, true, false, ◌==◌, List, [], ◌∷◌, ◌++◌, length, take, drop, Option, None, Some, All, refl, sym, ◌∙◌, ap, subst, arith, add-one, add-zero}
use Rattle.std.specs.Prelude.{nat_lt, if◌then◌else◌}
use Rattle.std.specs.Option.{option_map_or}
use Rattle.std.proofs.Math.Numerals.{one-add}
use Rattle.std.proofs.lemmas.Bool.{eqb-true, eqb-false, ne_eqb, eq-eqb, ltb-true}
use Rattle.std.proofs.lemmas.List.{append_assoc, length-append, take-append-drop}
use Rattle.std.proofs.lemmas.List.Elements.{All-nil, All-cons, All-head, All-tail}
use Rattle.maplex.specs.declared.logic.Opened.{Opened}
use Rattle.maplex.specs.Byte.{is_quote}
use Rattle.maplex.specs.Logic.{opened, inner_len}
use Rattle.maplex.specs.Grammar.{AreBalanced, no_byte, byte, quoted, bracketed, IsNeverClosed}

-- a quoted part is skipped up to its quote
inner_len-quoted : (n quote : ℕ) (part rest : List ℕ) → All (λ b. b ≢ quote) part →
    inner_len (opened n (Some quote)) (part ++ (quote ∷ rest)) ≡ length part + (1 + inner_len (opened n None) rest)
inner_len-quoted n quote [] rest h = rw (eq-eqb quote quote refl) (omega arith)
inner_len-quoted n quote (b ∷ part) rest h =
    rw (ne_eqb b quote (All-head (λ c. c ≢ quote) b part h), inner_len-quoted n quote part rest (All-tail (λ c. c ≢ quote) b part h)) (omega arith)

-- a bracket that closes an inner one is skipped
inner_len-closes : (n : ℕ) (rest : List ℕ) → inner_len (opened (n + 1) None) (41 ∷ rest) ≡ 1 + inner_len (opened n None) rest
inner_len-closes n rest =
    let inner : ((n + 1) == 0) ≡ false = ne_eqb (n + 1) 0 (λ e. absurd (omega (arith, e))) in
    let less : n + 1 - 1 ≡ n = omega arith in
    rw (inner, less) refl

-- balanced bytes are skipped
inner_len-balanced : (n : ℕ) (inner rest : List ℕ) → AreBalanced inner → inner_len (opened n None) (inner ++ rest) ≡ length inner + inner_len (opened n None) rest
inner_len-balanced n inner rest no_byte = omega arith
inner_len-balanced n inner rest (byte b bs quote opens closes others) =
    rw (quote, ne_eqb b 40 opens, ne_eqb b 41 closes, inner_len-balanced n bs rest others) (omega arith)
inner_len-balanced n inner rest (quoted quote part bs is goes_on others) =
    rw (is, append_assoc part (quote ∷ bs) rest, inner_len-quoted n quote part (bs ++ rest) goes_on, inner_len-balanced n bs rest others, length-append part (quote ∷ bs)) (omega arith)
inner_len-balanced n inner rest (bracketed part bs within others) =
    rw (append_assoc part (41 ∷ bs) rest, inner_len-balanced (n + 1) part (41 ∷ (bs ++ rest)) within, inner_len-closes n (bs ++ rest), inner_len-balanced n bs rest others, length-append part (41 ∷ bs)) (omega arith)

-- the bracket after balanced bytes closes the expression
pub inner_len-closed : (inner after : List ℕ) → AreBalanced inner → inner_len (opened 0 None) (inner ++ (41 ∷ after)) ≡ length inner
inner_len-closed inner after balanced = inner_len-balanced 0 inner (41 ∷ after) balanced ∙ add-zero (length inner)

-- some bytes are balanced but for so many brackets that they close
abbrev ClosesBrackets : ℕ → List ℕ → Type 0
ClosesBrackets zero bytes = AreBalanced bytes
ClosesBrackets (suc n) bytes = (part : List ℕ) × (rest : List ℕ) × (bytes ≡ part ++ (41 ∷ rest)) × AreBalanced part × ClosesBrackets n rest

-- and for a quote, where one is open
abbrev Closes : ℕ → Option ℕ → List ℕ → Type 0
Closes n None bytes = ClosesBrackets n bytes
Closes n (Some quote) bytes = (part : List ℕ) × (rest : List ℕ) × (bytes ≡ part ++ (quote ∷ rest)) × All (λ b. b ≢ quote) part × ClosesBrackets n rest

-- what may stand before balanced bytes changes nothing
closes-after : (n : ℕ) (prefix bytes : List ℕ) → ((bs : List ℕ) → AreBalanced bs → AreBalanced (prefix ++ bs)) → ClosesBrackets n bytes → ClosesBrackets n (prefix ++ bytes)
closes-after zero prefix bytes balanced h = balanced bytes h
closes-after (suc n) prefix bytes balanced (part, rest, is, within, others) =
    (prefix ++ part, rest, ap (λ bs. prefix ++ bs) is ∙ sym (append_assoc prefix part (41 ∷ rest)), balanced part within, others)

-- one more byte before such bytes, by what it is
closes-in_quotes : (n quote b : ℕ) (bytes : List ℕ) → b ≢ quote → Closes n (Some quote) bytes → Closes n (Some quote) (b ∷ bytes)
closes-in_quotes n quote b bytes differs (part, rest, is, goes_on, others) =
    (b ∷ part, rest, ap (λ bs. b ∷ bs) is, All-cons (λ c. c ≢ quote) b part differs goes_on, others)

closes-end_of_quotes : (n quote b : ℕ) (bytes : List ℕ) → b ≡ quote → ClosesBrackets n bytes → Closes n (Some quote) (b ∷ bytes)
closes-end_of_quotes n quote b bytes same h = ([], bytes, ap (λ c. c ∷ bytes) same, All-nil (λ c. c ≢ quote), h)

closes-quote : (n b : ℕ) (bytes : List ℕ) → is_quote b ≡ true → Closes n (Some b) bytes → ClosesBrackets n (b ∷ bytes)
closes-quote n b bytes quote (part, rest, is, goes_on, others) =
    let apart : (bs : List ℕ) → (b ∷ (part ++ (b ∷ []))) ++ bs ≡ b ∷ (part ++ (b ∷ bs)) = λ bs. ap (λ cs. b ∷ cs) (append_assoc part (b ∷ []) bs) in
    let prefix = closes-after n (b ∷ (part ++ (b ∷ []))) rest (λ bs h. subst AreBalanced (sym (apart bs)) (quoted b part bs quote goes_on h)) others in
    subst (ClosesBrackets n) (apart rest ∙ ap (λ bs. b ∷ bs) (sym is)) prefix

closes-bracket : (n b : ℕ) (bytes : List ℕ) → b ≡ 40 → ClosesBrackets (suc n) bytes → ClosesBrackets n (b ∷ bytes)
closes-bracket n b bytes opens (part, rest, is, within, others) =
    let apart : (bs : List ℕ) → (40 ∷ (part ++ (41 ∷ []))) ++ bs ≡ 40 ∷ (part ++ (41 ∷ bs)) = λ bs. ap (λ cs. 40 ∷ cs) (append_assoc part (41 ∷ []) bs) in
    let prefix = closes-after n (40 ∷ (part ++ (41 ∷ []))) rest (λ bs h. subst AreBalanced (sym (apart bs)) (bracketed part bs within h)) others in
    subst (ClosesBrackets n) (apart rest ∙ ap (λ bs. 40 ∷ bs) (sym is) ∙ ap (λ c. c ∷ bytes) (sym opens)) prefix

closes-byte : (n b : ℕ) (bytes : List ℕ) → is_quote b ≡ false → b ≢ 40 → b ≢ 41 → ClosesBrackets n bytes → ClosesBrackets n (b ∷ bytes)
closes-byte n b bytes quote opens closes h = closes-after n (b ∷ []) bytes (λ bs balanced. byte b bs quote opens closes balanced) h

-- the bytes before a closing bracket at an index close what is open
abbrev ClosesAt : ℕ → Option ℕ → ℕ → List ℕ → Type 0
ClosesAt n quote at bytes = at < length bytes → Closes n quote (take at bytes) × (take (suc at) bytes ≡ take at bytes ++ (41 ∷ []))

-- the same with one more byte
closes-more : (n k : ℕ) (quote next : Option ℕ) (b at : ℕ) (bs : List ℕ) → ((bytes : List ℕ) → Closes k next bytes → Closes n quote (b ∷ bytes)) →
    ClosesAt k next at bs → ClosesAt n quote (1 + at) (b ∷ bs)
closes-more n k quote next b at bs more here = λ lt.
    let (before, closing) = here (omega arith) in
    rw one-add (more (take at bs) before, ap (λ cs. b ∷ cs) closing)

-- the bytes counted after a byte, by what is open then
abbrev counted : List ℕ → Option Opened → ℕ
counted bs next = option_map_or (λ o. 1 + inner_len o bs) next 0

-- what is known of the bytes after a byte
abbrev ClosesBelow : List ℕ → Type 0
ClosesBelow bs = (n : ℕ) (quote : Option ℕ) → ClosesAt n quote (inner_len (opened n quote) bs) bs

in_quotes : (n quote b : ℕ) (bs : List ℕ) (same : Bool) → (b == quote) ≡ same → ClosesBelow bs →
    ClosesAt n (Some quote) (counted bs (if same then Some (opened n None) else Some (opened n (Some quote)))) (b ∷ bs)
in_quotes n quote b bs true e below =
    closes-more n n (Some quote) None b _ bs (λ bytes h. closes-end_of_quotes n quote b bytes (eqb-true b quote e) h) (below n None)
in_quotes n quote b bs false e below =
    closes-more n n (Some quote) (Some quote) b _ bs (λ bytes h. closes-in_quotes n quote b bytes (eqb-false b quote e) h) (below n (Some quote))

at_closing : (n b : ℕ) (bs : List ℕ) → b ≡ 41 → ClosesBelow bs →
    ClosesAt n None (counted bs (if n == 0 then None else Some (opened (n - 1) None))) (b ∷ bs)
at_closing zero b bs is below = λ lt. (no_byte, ap (λ c. c ∷ []) is)
at_closing (suc n) b bs is below =
    let inner : (suc n == 0) ≡ false = ne_eqb (suc n) 0 (λ e. absurd (omega (arith, e))) in
    let less : suc n - 1 ≡ n = omega arith in
    rw (inner, less) (closes-more (suc n) n None None b _ bs (λ bytes h. ([], bytes, ap (λ c. c ∷ bytes) is, no_byte, h)) (below n None))

outside : (n b : ℕ) (bs : List ℕ) (quote opens closes : Bool) → is_quote b ≡ quote → (b == 40) ≡ opens → (b == 41) ≡ closes → ClosesBelow bs →
    ClosesAt n None (counted bs
    (if quote then Some (opened n (Some b))
    else (if opens then Some (opened (n + 1) None)
    else (if closes then (if n == 0 then None else Some (opened (n - 1) None))
    else Some (opened n None))))) (b ∷ bs)
outside n b bs true opens closes q o c below = closes-more n n None (Some b) b _ bs (λ bytes h. closes-quote n b bytes q h) (below n (Some b))
outside n b bs false true closes q o c below =
    closes-more n (n + 1) None None b _ bs (λ bytes h. closes-bracket n b bytes (eqb-true b 40 o) (subst (λ k. ClosesBrackets k bytes) (add-one n) h)) (below (n + 1) None)
outside n b bs false false true q o c below = at_closing n b bs (eqb-true b 41 c) below
outside n b bs false false false q o c below =
    closes-more n n None None b _ bs (λ bytes h. closes-byte n b bytes q (eqb-false b 40 o) (eqb-false b 41 c) h) (below n None)

closes-at : (bs : List ℕ) → ClosesBelow bs
closes-at [] n quote = λ lt. absurd (omega (arith, lt))
closes-at (b ∷ bs) n (Some quote) = in_quotes n quote b bs (b == quote) refl (closes-at bs)
closes-at (b ∷ bs) n None = outside n b bs (is_quote b) (b == 40) (b == 41) refl refl refl (closes-at bs)

-- where a bracket closes the expression, the bytes before it are balanced
pub balanced-before : (bs : List ℕ) → inner_len (opened 0 None) bs < length bs → AreBalanced (take (inner_len (opened 0 None) bs) bs)
balanced-before bs lt = (closes-at bs 0 None lt).0

pub closing-after : (bs : List ℕ) → inner_len (opened 0 None) bs < length bs →
    take (suc (inner_len (opened 0 None) bs)) bs ≡ take (inner_len (opened 0 None) bs) bs ++ (41 ∷ [])
closing-after bs lt = (closes-at bs 0 None lt).1

-- an expression that is never closed: no byte is found that closes it, and only then
pub never-closed_from : (bs : List ℕ) → length bs ≤ inner_len (opened 0 None) bs → IsNeverClosed bs
never-closed_from bs h = λ inner after balanced is.
    let found : inner_len (opened 0 None) bs ≡ length inner = ap (inner_len (opened 0 None)) is ∙ inner_len-closed inner after balanced in
    absurd (omega (arith, h, found, ap length is, length-append inner (41 ∷ after)))

never-closed_by : (bs : List ℕ) (closes : Bool) → nat_lt (inner_len (opened 0 None) bs) (length bs) ≡ closes → IsNeverClosed bs → nat_lt (inner_len (opened 0 None) bs) (length bs) ≡ false
never-closed_by bs false e never = e
never-closed_by bs true e never =
    let at = inner_len (opened 0 None) bs in
    let lt = ltb-true at (length bs) e in
    let whole : bs ≡ take at bs ++ (41 ∷ drop (suc at) bs) =
    sym (take-append-drop (suc at) bs) ∙ ap (λ prefix. prefix ++ drop (suc at) bs) (closing-after bs lt) ∙ append_assoc (take at bs) (41 ∷ []) (drop (suc at) bs) in
    absurd (never (take at bs) (drop (suc at) bs) (balanced-before bs lt) whole)

pub never-closed_to : (bs : List ℕ) → IsNeverClosed bs → nat_lt (inner_len (opened 0 None) bs) (length bs) ≡ false
never-closed_to bs never = never-closed_by bs (nat_lt (inner_len (opened 0 None) bs) (length bs)) refl never
