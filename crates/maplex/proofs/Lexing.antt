-- What is lexed from a position on.
use Rattle.std.proofs.Common.{◌≡◌, ℕ, zero, suc, ◌+◌, ◌<◌, ◌≤◌, Bool, true, false, not, ◌==◌, List, [], ◌∷◌, length, drop, Option, None, Some, Result, Ok, Err, IfOk, IfSome, refl, sym, ◌∙◌, ap, arith, length-drop, add-zero}
use Rattle.std.specs.Prelude.{nat_lt, position, if◌then◌else◌}
use Rattle.std.proofs.Math.Numerals.{one-add}
use Rattle.maplex.specs.declared.extent.Extent.{Extent}
use Rattle.maplex.specs.declared.fault.LexKind.{LexKind}
use Rattle.maplex.specs.declared.fault.LexFault.{LexFault}
use Rattle.maplex.specs.declared.fault.Tail.{Tail}
use Rattle.maplex.specs.declared.fault.Tail.TheVariants.{Ends, Breaks}
use Rattle.maplex.specs.declared.token.Shape.{Shape}
use Rattle.maplex.specs.declared.token.Shape.TheVariants as shape
use Rattle.maplex.specs.Logic.{opened, inner_len}
use Rattle.maplex.specs.Position.{Position, start, further, blank_len, after_blanks}
use Rattle.maplex.specs.Token.{TokenValue, Step, Stops, Reads, step, step_of, checked_at, unless, token_at, shape_of, extent_of, extent_by, closed_extent, border_len, token_len, text_fault, text_of}
use Rattle.maplex.specs.Lexed.{Lexed, stopped, ended, with_token, lexed_within, lexed_from, BytesAreEnough}

-- after blanks there is none
blank_len-step : (b : ℕ) (bs : List ℕ) → blank_len false (drop (blank_len true bs) bs) ≡ 0 → blank_len false (drop (blank_len false bs) bs) ≡ 0 →
    blank_len false (drop (blank_len false (b ∷ bs)) (b ∷ bs)) ≡ 0
blank_len-step b bs in_comment outside = grind (arith, one-add)

blank_len-drop : (in_comment : Bool) (bytes : List ℕ) → blank_len false (drop (blank_len in_comment bytes) bytes) ≡ 0
blank_len-drop in_comment [] = refl
blank_len-drop true (b ∷ bs) = rw one-add (blank_len-drop (not (b == 10)) bs)
blank_len-drop false (b ∷ bs) = blank_len-step b bs (blank_len-drop true bs) (blank_len-drop false bs)

-- no byte further is the same position
further-none : (p : Position) → further 0 p ≡ p
further-none p = ap (λ n. record { rest = p.rest; line = n }) (add-zero p.line)

-- a position with no blank is the one after its blanks
after_blanks-none : (p : Position) → blank_len false p.rest ≡ 0 → after_blanks p ≡ p
after_blanks-none p h = ap (λ n. further n p) h ∙ further-none p

-- after its blanks a position has none
pub blank_len-after_blanks : (p : Position) → blank_len false (after_blanks p).rest ≡ 0
blank_len-after_blanks p = blank_len-drop false p.rest

-- A step fits its position. The end is on its line with nothing left, and a fault on it or further down. A token
-- begins on it and takes at least one byte.
abbrev pub FitsPosition : Position → Step → Type 0
FitsPosition p (Stops (Ends line)) = (line ≡ p.line) × (p.rest ≡ [])
FitsPosition p (Stops (Breaks f)) = p.line ≤ f.line
FitsPosition p (Reads t next) = (t.line ≡ p.line) × (length next.rest < length p.rest)

fits-unless : (p : Position) (f : Option LexFault) (given : Step) → IfSome f (λ f. p.line ≤ f.line) → FitsPosition p given → FitsPosition p (unless f given)
fits-unless p (Some f) given line fits = line
fits-unless p None given line fits = fits

text_fault-line : (line : ℕ) (text : List ℕ) → IfSome (text_fault line text) (λ f. line ≤ f.line)
text_fault-line line text = grind arith

fits-checked_at : (p : Position) (r : Result Extent LexKind) → 0 < length p.rest → IfOk r (λ e. 0 < token_len e) → FitsPosition p (checked_at p r)
fits-checked_at p (Err kind) some takes = omega arith
fits-checked_at p (Ok e) some takes =
    fits-unless p (text_fault p.line (text_of e p.rest)) (token_at p e) (text_fault-line p.line (text_of e p.rest))
    (refl, omega (arith, length-drop (token_len e) p.rest))

-- a token takes a byte at least: a bare word its first, others those that open and close it
bordered-takes : (s : Shape) (o : Option ℕ) → border_len s ≡ 1 → IfOk (closed_extent s o) (λ e. 0 < token_len e)
bordered-takes s None one = tt
bordered-takes s (Some n) one = rw one (omega arith)

logic-takes : (n : ℕ) (closes : Bool) → IfOk (closed_extent shape.Logic (if closes then Some (2 + n) else None)) (λ e. 0 < token_len e)
logic-takes n true = omega arith
logic-takes n false = tt

extent_by-takes : (o : Option Shape) (b : ℕ) (bs : List ℕ) → IfOk (extent_by o b bs) (λ e. 0 < token_len e)
extent_by-takes None b bs = tt
extent_by-takes (Some shape.Word) b bs = omega arith
extent_by-takes (Some shape.Text) b bs = bordered-takes shape.Text (position (λ c. c == b) bs) refl
extent_by-takes (Some shape.Logic) b bs = logic-takes (inner_len (opened 0 None) bs) (nat_lt (inner_len (opened 0 None) bs) (length bs))
extent_by-takes (Some shape.List) b bs = bordered-takes shape.List (position (λ c. c == 125) bs) refl

extent_of-takes : (b : ℕ) (bs : List ℕ) → IfOk (extent_of b bs) (λ e. 0 < token_len e)
extent_of-takes b bs = extent_by-takes (shape_of b) b bs

step_of-fits : (p : Position) (bytes : List ℕ) → p.rest ≡ bytes → FitsPosition p (step_of p bytes)
step_of-fits p [] h = (refl, h)
step_of-fits p (b ∷ bs) h = fits-checked_at p (extent_of b bs) (omega (arith, ap length h)) (extent_of-takes b bs)

pub step-fits : (p : Position) → FitsPosition p (step p)
step-fits p = step_of-fits p p.rest refl

-- what is lexed by a step, and within so many steps after it
abbrev pub after_step : ℕ → Step → Lexed
after_step n (Stops tail) = stopped tail
after_step n (Reads t next) = with_token t (lexed_within n next)

pub lexed_within-suc : (n : ℕ) (p : Position) → lexed_within (suc n) p ≡ after_step n (step (after_blanks p))
unfolding lexed_within
lexed_within-suc n p = elim (step (after_blanks p)) as (λ f. elim f [ Stops tail ↦ stopped tail | Reads t next ↦ with_token t (lexed_within n next) ] ≡ after_step n f) [
  | Stops tail ↦ refl
  | Reads t next ↦ refl
]

pub nothing-left : (bytes : List ℕ) → length bytes ≤ 0 → bytes ≡ []
nothing-left [] h = refl
nothing-left (b ∷ bs) h = absurd (omega arith)

-- where nothing is left there is no blank, and the step stops at the end
blank_len-empty : (bytes : List ℕ) → length bytes ≤ 0 → blank_len false bytes ≡ 0
blank_len-empty [] h = refl
blank_len-empty (b ∷ bs) h = absurd (omega arith)

step_of-empty : (p : Position) (bytes : List ℕ) → length bytes ≤ 0 → step_of p bytes ≡ Stops (Ends p.line)
step_of-empty p [] h = refl
step_of-empty p (b ∷ bs) h = absurd (omega arith)

pub lexed_within-empty : (n : ℕ) (p : Position) → length p.rest ≤ 0 → lexed_within n p ≡ ended p.line
unfolding lexed_within
lexed_within-empty zero p h = refl
lexed_within-empty (suc n) p h =
    lexed_within-suc n p ∙ ap (λ q. after_step n (step q)) (after_blanks-none p (blank_len-empty p.rest h)) ∙ ap (after_step n) (step_of-empty p p.rest h)

-- more than enough tokens change nothing
after_step-same : (n m : ℕ) (p : Position) (f : Step) → FitsPosition p f → length p.rest ≤ suc n → length p.rest ≤ suc m →
    ((next : Position) → length next.rest ≤ n → length next.rest ≤ m → lexed_within n next ≡ lexed_within m next) → after_step n f ≡ after_step m f
after_step-same n m p (Stops tail) fits h k same = refl
after_step-same n m p (Reads t next) fits h k same = ap (with_token t) (same next (omega (arith, fits.1)) (omega (arith, fits.1)))

lexed_within-same : (n m : ℕ) (p : Position) → length p.rest ≤ n → length p.rest ≤ m → lexed_within n p ≡ lexed_within m p
lexed_within-same zero m p h k = lexed_within-empty zero p h ∙ sym (lexed_within-empty m p h)
lexed_within-same (suc n) zero p h k = lexed_within-empty (suc n) p k ∙ sym (lexed_within-empty zero p k)
lexed_within-same (suc n) (suc m) p h k =
    let q = after_blanks p in
    let shorter : length q.rest ≤ length p.rest = omega (arith, length-drop (blank_len false p.rest) p.rest) in
    lexed_within-suc n p
    ∙ after_step-same n m q (step q) (step-fits q) (omega arith) (omega arith) (λ next a b. lexed_within-same n m next a b)
    ∙ sym (lexed_within-suc m p)

pub bytes-are-enough : BytesAreEnough
bytes-are-enough source n h = lexed_within-same n (length source) (start source) h (omega arith)

-- blanks change nothing
pub lexed_from-after_blanks : (p : Position) → lexed_from (after_blanks p) ≡ lexed_from p
lexed_from-after_blanks p =
    let q = after_blanks p in
    let n = length p.rest in
    let shorter : length q.rest ≤ n = omega (arith, length-drop (blank_len false p.rest) p.rest) in
    lexed_within-same (length q.rest) (suc n) q (omega arith) (omega arith)
    ∙ lexed_within-suc n q
    ∙ ap (λ r. after_step n (step r)) (after_blanks-none q (blank_len-after_blanks p))
    ∙ sym (lexed_within-suc n p)
    ∙ lexed_within-same (suc n) n p (omega arith) (omega arith)

-- what is lexed from a position with no blank is by the step there
lexed_from-step : (p : Position) → blank_len false p.rest ≡ 0 → lexed_from p ≡ after_step (length p.rest) (step p)
lexed_from-step p no_blank =
    let n = length p.rest in
    lexed_within-same n (suc n) p (omega arith) (omega arith)
    ∙ lexed_within-suc n p
    ∙ ap (λ q. after_step n (step q)) (after_blanks-none p no_blank)

pub lexed_from-stops : (p : Position) (tail : Tail) → blank_len false p.rest ≡ 0 → step p ≡ Stops tail → lexed_from p ≡ stopped tail
lexed_from-stops p tail no_blank e = lexed_from-step p no_blank ∙ ap (after_step (length p.rest)) e

pub lexed_from-token : (p : Position) (t : TokenValue) (next : Position) → blank_len false p.rest ≡ 0 → step p ≡ Reads t next →
    lexed_from p ≡ with_token t (lexed_from next)
lexed_from-token p t next no_blank e =
    let fits = rw e at (step-fits p) in
    lexed_from-step p no_blank
    ∙ ap (after_step (length p.rest)) e
    ∙ ap (with_token t) (lexed_within-same (length p.rest) (length next.rest) next (omega (arith, fits.1)) (omega arith))

-- at a position where nothing is left, nothing is lexed but the end
pub lexed_from-empty : (line : ℕ) → lexed_from (record { rest = []; line = line }) ≡ ended line
lexed_from-empty line = lexed_within-empty 0 (record { rest = []; line = line }) (omega arith)

-- what is lexed where the step after blanks stops
pub lexed_from-stopped : (p q : Position) (tail : Tail) → q ≡ after_blanks p → step q ≡ Stops tail → lexed_from p ≡ stopped tail
lexed_from-stopped p q tail at e =
    sym (lexed_from-after_blanks p) ∙ ap lexed_from (sym at) ∙ lexed_from-stops q tail (rw at (blank_len-after_blanks p)) e

-- what is lexed where the step after blanks reads a token
pub lexed_from-read : (p q : Position) (t : TokenValue) (next : Position) → q ≡ after_blanks p → step q ≡ Reads t next → lexed_from p ≡ with_token t (lexed_from next)
lexed_from-read p q t next at e =
    sym (lexed_from-after_blanks p) ∙ ap lexed_from (sym at) ∙ lexed_from-token q t next (rw at (blank_len-after_blanks p)) e
