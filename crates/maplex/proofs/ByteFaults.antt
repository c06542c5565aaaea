-- What is wrong with a bad byte is found exactly where lexing stops at one.
use Rattle.std.proofs.Common.{◌≡◌, subst, ℕ, zero, suc, Bool, true, false, List, [], ◌∷◌, Option, None, Some, is_some, Result, Ok, Err, refl, sym, ◌∙◌, ap}
use Rattle.std.specs.Prelude.{◌+◌, take, nat_lt, if◌then◌else◌, length}
use Rattle.std.specs.List.{position_or_len}
use Rattle.std.specs.Str.Lossy.{utf8_valid_len}
use Rattle.maplex.specs.declared.bad_byte.ByteFault.{ByteFault}
use Rattle.maplex.specs.declared.bad_byte.ByteFault.TheVariants as wrong
use Rattle.maplex.specs.declared.extent.Extent.{Extent}
use Rattle.maplex.specs.declared.fault.LexKind.{LexKind}
use Rattle.maplex.specs.declared.fault.LexKind.TheVariants.{OpenString, BadByte, TooLong}
use Rattle.maplex.specs.declared.token.TheConstants.{TOKEN_LIMIT}
use Rattle.maplex.specs.Byte.{is_control}
use Rattle.maplex.specs.ByteFault.{byte_fault_in, byte_fault_of, byte_fault_within, is_at_bad_byte}
use Rattle.maplex.specs.Lexed.{Lexed, lexed_within}
use Rattle.maplex.specs.Position.{Position, after_blanks, line_ends}
use Rattle.maplex.specs.Token.{TokenValue, Step, Stops, Reads, step, step_of, checked_at, unless, fault, extent_of, text_of, bad_at}
use Rattle.maplex.proofs.Lexing.{after_step, lexed_within-suc}

-- where a step stops, a byte fault is found if it stops at a bad byte
abbrev pub Agrees : Option ByteFault → Step → Type 0
Agrees found (Stops tail) = is_some found ≡ is_at_bad_byte tail
Agrees found (Reads t next) = Unit {0}

agrees-text : (bad long : Bool) (wrong : ByteFault) (line at : ℕ) (t : TokenValue) (next : Position) →
    Agrees (if bad then Some wrong else None) (unless (if bad then Some (fault at BadByte) else (if long then Some (fault line TooLong) else None)) (Reads t next))
agrees-text true long wrong line at t next = refl
agrees-text false true wrong line at t next = refl
agrees-text false false wrong line at t next = tt

agrees-checked : (p : Position) (r : Result Extent LexKind) → Agrees (byte_fault_in p.rest r) (checked_at p r)
agrees-checked p (Err OpenString) = refl
agrees-checked p (Err BadByte) = refl
agrees-checked p (Err TooLong) = refl
agrees-checked p (Ok e) =
    let text = text_of e p.rest in
    agrees-text (nat_lt (bad_at text) (length text)) (nat_lt TOKEN_LIMIT (length text))
    (if nat_lt (utf8_valid_len text) (position_or_len is_control text) then wrong.NotUtf8 else wrong.Control)
    p.line (p.line + line_ends (take (bad_at text) text)) _ _

agrees-at : (p : Position) (bytes : List ℕ) → p.rest ≡ bytes → Agrees (byte_fault_of bytes) (step_of p bytes)
agrees-at p [] h = refl
agrees-at p (b ∷ bs) h =
    subst (λ (bytes : List ℕ). Agrees (byte_fault_in bytes (extent_of b bs)) (checked_at p (extent_of b bs))) h (agrees-checked p (extent_of b bs))

-- what is found by a step, and within so many steps after it
abbrev pub found_after : ℕ → Position → Step → Option ByteFault
found_after n p (Stops tail) = byte_fault_of p.rest
found_after n p (Reads t next) = byte_fault_within n next

pub byte_fault_within-suc : (n : ℕ) (p : Position) → byte_fault_within (suc n) p ≡ found_after n (after_blanks p) (step (after_blanks p))
unfolding byte_fault_within
byte_fault_within-suc n p = elim (step (after_blanks p)) as (λ f. elim f [ Stops tail ↦ byte_fault_of (after_blanks p).rest | Reads t next ↦ byte_fault_within n next ] ≡ found_after n (after_blanks p) f) [
  | Stops tail ↦ refl
  | Reads t next ↦ refl
]

found_after-agrees : (n : ℕ) (p : Position) (f : Step) → Agrees (byte_fault_of p.rest) f →
    ((next : Position) → is_some (byte_fault_within n next) ≡ is_at_bad_byte (lexed_within n next).tail) →
    is_some (found_after n p f) ≡ is_at_bad_byte (after_step n f).tail
found_after-agrees n p (Stops tail) agrees further = agrees
found_after-agrees n p (Reads t next) agrees further = further next

-- within so many steps a byte fault is found exactly where lexing stops at a bad byte
pub bad-byte-is-found : (n : ℕ) (p : Position) → is_some (byte_fault_within n p) ≡ is_at_bad_byte (lexed_within n p).tail
unfolding byte_fault_within lexed_within
bad-byte-is-found zero p = refl
bad-byte-is-found (suc n) p =
    let q = after_blanks p in
    ap is_some (byte_fault_within-suc n p)
    ∙ found_after-agrees n q (step q) (agrees-at q q.rest refl) (λ next. bad-byte-is-found n next)
    ∙ ap (λ (left : Lexed). is_at_bad_byte left.tail) (sym (lexed_within-suc n p))

-- where the step stops, the byte fault is that of the bytes there; where it reads a token, that further on
pub stops-here : (n m : ℕ) (p q : Position) (f : Step) → n ≡ suc m → q ≡ after_blanks p → step q ≡ f → byte_fault_within n p ≡ found_after m q f
stops-here n m p q f count at is =
    ap (λ k. byte_fault_within k p) count
    ∙ byte_fault_within-suc m p
    ∙ ap (λ r. found_after m r (step r)) (sym at)
    ∙ ap (found_after m q) is

-- nothing is found in no step
pub none-in-no-step : (n : ℕ) (p : Position) → n ≡ 0 → byte_fault_within n p ≡ None
unfolding byte_fault_within
none-in-no-step n p none = ap (λ k. byte_fault_within k p) none
