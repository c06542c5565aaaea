-- Commands that are written are read back.
use Rattle.std.proofs.Common.{◌≡◌, ◌∙◌, ℕ, suc, ◌+◌, ◌-◌, ◌<◌, ◌≤◌, ◌^◌, Bool, true, false, List, [], ◌∷◌, ◌++◌, length, take, drop, Option, None, Some, Ok, All, nat_le, nat_lt, refl, sym, ap, arith, length-append}
use Rattle.std.proofs.Math.Seq.{drop-append-add, drop-append_seam, get_or-append_right, get_or-append_seam, take-append_seam}
use Rattle.std.proofs.lemmas.Bool.{and_parts}
use Rattle.std.proofs.lemmas.Bool.Decides.{nat_tests}
use Rattle.std.proofs.lemmas.Fmt.{decimal_nonempty, digits_decimal, digits_value-decimal, length-decimal-le}
use Rattle.std.proofs.lemmas.List.{append_assoc, append-nil}
use Rattle.std.proofs.lemmas.List.Elements.{All-head, All-tail}
use Rattle.std.proofs.lemmas.List.Folds.{list_any-append}
use Rattle.std.specs.Char.{is_ascii_digit}
use Rattle.std.specs.Fmt.{decimal}
use Rattle.std.specs.List.{after_first, before_first, fold, list_any, position_or_len}
use Rattle.std.specs.Prelude.{codes}
use Rattle.std.specs.Str.{all_ascii_digits}
use Rattle.geom.proofs.OneText.{digits-model}
use Rattle.geom.specs.Decimal.{with_digit}
use Rattle.geom.specs.Natural.{number_in}
use Rattle.batches.specs.Command.{append_of, count_of, ends_in_cr, first_command, is_line_end, is_space, line_of, reading_of, reading_within, step, with_bytes, with_command}
use Rattle.batches.specs.Written.{CanBeWritten, written, written_command}
use Rattle.batches.specs.declared.command.Command.{Command}
use Rattle.batches.specs.declared.command.Command.TheVariants.{On, Off, Clear, Append}
use Rattle.batches.specs.declared.command.CommandLine.{CommandLine}
use Rattle.batches.specs.declared.command.CommandLine.TheVariants.{Wants}
use Rattle.batches.proofs.Leading.{reading-step}

-- where no byte passes, the first one that does is the next
cut-len : (p : ℕ → Bool) (line : List ℕ) (b : ℕ) (rest : List ℕ) → list_any p line ≡ false → p b ≡ true → position_or_len p (line ++ b ∷ rest) ≡ length line
cut-len p [] b rest none hit = rw hit refl
cut-len p (c ∷ line) b rest none hit = go (λ others. cut-len p line b rest others hit) (p c) refl none
  where
    go : (list_any p line ≡ false → position_or_len p (line ++ b ∷ rest) ≡ length line) → (t : Bool) → p c ≡ t → list_any p (c ∷ line) ≡ false →
        position_or_len p (c ∷ line ++ b ∷ rest) ≡ suc (length line)
    go after true e h = let clash : true ≡ false = rw e at h in absurd (cc)
    go after false e h =
        let others : list_any p line ≡ false = rw e at h in
        let more : 1 + position_or_len p (line ++ b ∷ rest) ≡ suc (length line) = omega (arith, after others) in
        rw e more

module _ (p : ℕ → Bool) (line : List ℕ) (b : ℕ) (rest : List ℕ) (none : list_any p line ≡ false) (hit : p b ≡ true) where
  pub cut-before : before_first p (line ++ b ∷ rest) ≡ line
  cut-before = ap (λ n. take n (line ++ b ∷ rest)) (cut-len p line b rest none hit) ∙ take-append_seam line (b ∷ rest)

  pub cut-after : after_first p (line ++ b ∷ rest) ≡ rest
  cut-after = ap (λ n. drop (n + 1) (line ++ b ∷ rest)) (cut-len p line b rest none hit) ∙ drop-append-add line (b ∷ rest) 1

  pub cut-there : nat_lt (position_or_len p (line ++ b ∷ rest)) (length (line ++ b ∷ rest)) ≡ true
  cut-there =
      let short : length line < length (line ++ b ∷ rest) = omega (arith, length-append line (b ∷ rest)) in
      rw (cut-len p line b rest none hit) (grind (arith, nat_tests))

-- the command of a line that has no LF and no CR at its end
line-read : (line rest : List ℕ) → list_any is_line_end line ≡ false → ends_in_cr line ≡ false →
    first_command (line ++ 10 ∷ rest) ≡ with_bytes (line_of line) rest
line-read line rest none plain =
    rw (cut-there is_line_end line 10 rest none refl, cut-before is_line_end line 10 rest none refl, cut-after is_line_end line 10 rest none refl, plain) refl

-- digits are no spaces and no LF
digit-plain : (b : ℕ) → is_ascii_digit b ≡ true → (is_space b ≡ false) × (is_line_end b ≡ false)
digit-plain b d = (grind (arith, nat_tests), grind (arith, nat_tests))

pub digits-plain : (ds : List ℕ) → all_ascii_digits ds ≡ true → (list_any is_space ds ≡ false) × (list_any is_line_end ds ≡ false)
digits-plain [] h = (refl, refl)
digits-plain (d ∷ ds) h =
    let parts = and_parts (is_ascii_digit d) (all_ascii_digits ds) h in
    let one = digit-plain d parts.0 in
    let others = digits-plain ds parts.1 in
    (rw (one.0, others.0) refl, rw (one.1, others.1) refl)

-- the number of digits is that of their fold
digits-counted : (ds : List ℕ) → all_ascii_digits ds ≡ true → number_in ds ≡ Some (fold with_digit 0 ds)
digits-counted ds h = rw h refl

-- a count of at most 10 digits is read back
module _ (n : ℕ) (fits : n < 10 ^ 10) where
  pub count-digits : all_ascii_digits (decimal n) ≡ true
  count-digits = digits_decimal digits-model n (omega arith)

  pub count-read : count_of (decimal n) ≡ Some n
  count-read =
      let small : n < 2 ^ 64 = omega arith in
      let some : nat_le 1 (length (decimal n)) ≡ true = grind (arith, nat_tests, decimal_nonempty n small) in
      let few : nat_le (length (decimal n)) 10 ≡ true = grind (arith, nat_tests, length-decimal-le 10 n (omega arith) fits small) in
      rw (some, few) (digits-counted (decimal n) count-digits ∙ ap (λ (k : ℕ). Some k) (digits_value-decimal digits-model n small))

  -- so are a count and a name
  append-read : (name : List ℕ) → append_of (decimal n ++ 32 ∷ name) ≡ Some (Wants n name)
  append-read name =
      let none = (digits-plain (decimal n) count-digits).0 in
      rw (cut-there is_space (decimal n) 32 name none refl, cut-before is_space (decimal n) 32 name none refl, count-read) (ap (λ (x : List ℕ). Some (Wants n x)) (cut-after is_space (decimal n) 32 name none refl))

-- no CR ends a line whose name doesn't end with one, and whose prefix doesn't
ends-plain : (front name : List ℕ) → ends_in_cr front ≡ false → ends_in_cr name ≡ false → ends_in_cr (front ++ name) ≡ false
ends-plain front [] f n = rw (append-nil front) f
ends-plain front (b ∷ bs) f n =
    let last : length (front ++ b ∷ bs) - 1 - length front ≡ length (b ∷ bs) - 1 = omega (arith, length-append front (b ∷ bs)) in
    let within : length front ≤ length (front ++ b ∷ bs) - 1 = omega (arith, length-append front (b ∷ bs)) in
    rw (get_or-append_right front (b ∷ bs) (length (front ++ b ∷ bs) - 1) 0 within, last) n

ends-space : (front : List ℕ) → ends_in_cr (front ++ 32 ∷ []) ≡ false
ends-space front =
    let last : length (front ++ 32 ∷ []) - 1 ≡ length front = omega (arith, length-append front (32 ∷ [])) in
    rw (last, get_or-append_seam front 32 [] 0) refl

-- a command is read back, with the bytes after it
read-back : (c : Command) (rest : List ℕ) → CanBeWritten c → first_command (written_command c ++ rest) ≡ Ok (c, rest)
read-back (On name) rest fits =
    ap (λ (x : List ℕ). first_command (79 ∷ 78 ∷ 32 ∷ x)) (append_assoc name (10 ∷ []) rest)
    ∙ line-read (79 ∷ 78 ∷ 32 ∷ name) rest fits.line (ends-plain (79 ∷ 78 ∷ 32 ∷ []) name refl fits.end)
read-back (Off name) rest fits =
    ap (λ (x : List ℕ). first_command (79 ∷ 70 ∷ 70 ∷ 32 ∷ x)) (append_assoc name (10 ∷ []) rest)
    ∙ line-read (79 ∷ 70 ∷ 70 ∷ 32 ∷ name) rest fits.line (ends-plain (79 ∷ 70 ∷ 70 ∷ 32 ∷ []) name refl fits.end)
read-back (Clear name) rest fits =
    ap (λ (x : List ℕ). first_command (67 ∷ 76 ∷ 69 ∷ 65 ∷ 82 ∷ 32 ∷ x)) (append_assoc name (10 ∷ []) rest)
    ∙ line-read (67 ∷ 76 ∷ 69 ∷ 65 ∷ 82 ∷ 32 ∷ name) rest fits.line (ends-plain (67 ∷ 76 ∷ 69 ∷ 65 ∷ 82 ∷ 32 ∷ []) name refl fits.end)
read-back (Append name bytes) rest fits =
    let n = length bytes in
    let word = codes "APPEND " in
    let line = word ++ (decimal n ++ 32 ∷ name) in
    let digits = (digits-plain (decimal n) (count-digits n fits.1)).1 in
    let cut : written_command (Append name bytes) ++ rest ≡ line ++ 10 ∷ (bytes ++ rest) =
    ap (λ (x : List ℕ). word ++ x)
    (append_assoc (decimal n) (32 ∷ (name ++ 10 ∷ bytes)) rest
    ∙ (ap (λ (x : List ℕ). decimal n ++ 32 ∷ x) (append_assoc name (10 ∷ bytes) rest)
    ∙ sym (append_assoc (decimal n) (32 ∷ name) (10 ∷ (bytes ++ rest))))) in
    let none : list_any is_line_end line ≡ false = rw (list_any-append is_line_end (decimal n) (32 ∷ name), digits) fits.0.line in
    let plain : ends_in_cr line ≡ false =
    ap (λ (x : List ℕ). ends_in_cr (word ++ x)) (sym (append_assoc (decimal n) (32 ∷ []) name))
    ∙ ends-plain (word ++ (decimal n ++ 32 ∷ [])) name (ends-space (word ++ decimal n)) fits.0.end in
    let enough : nat_lt (length (bytes ++ rest)) n ≡ false = grind (arith, nat_tests, length-append bytes rest) in
    ap first_command cut
    ∙ (line-read line (bytes ++ rest) none plain
    ∙ (ap (λ (l : Option CommandLine). with_bytes l (bytes ++ rest)) (append-read n fits.1 name)
    ∙ rw (enough, take-append_seam bytes rest, drop-append_seam bytes rest) refl))

some-byte : (c : Command) (rest : List ℕ) → 1 ≤ length (written_command c ++ rest)
some-byte (On name) rest = omega arith
some-byte (Off name) rest = omega arith
some-byte (Clear name) rest = omega arith
some-byte (Append name bytes) rest = omega arith

-- and so are all
pub all-back : (commands : List Command) → All CanBeWritten commands → reading_of (written commands) ≡ record { commands = commands; wrong = None }
unfolding reading_within
all-back [] fit = refl
all-back (c ∷ commands) fit =
    reading-step (written_command c ++ written commands) (some-byte c (written commands))
    ∙ (ap (λ r. step r reading_of) (read-back c (written commands) (All-head CanBeWritten c commands fit))
    ∙ ap (with_command c) (all-back commands (All-tail CanBeWritten c commands fit)))
