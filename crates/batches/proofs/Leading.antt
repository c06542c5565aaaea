-- One command of a batch, and those after it.
use Rattle.std.proofs.Common.{◌≡◌, ◌∙◌, ℕ, zero, suc, ◌+◌, ◌<◌, ◌≤◌, Bool, true, false, List, [], ◌∷◌, ◌==◌, eqb-true, length, drop, take, Option, None, Some, Result, Ok, Err, nat_lt, refl, sym, ap, arith, length-drop}
use Rattle.std.proofs.lemmas.Bool.Decides.{nat_tests}
use Rattle.std.specs.List.{after_first, before_first, position_or_len}
use Rattle.batches.specs.Batch.{IsBatchErrorOf, IsErrorOf, after, after_reading, at_command, at_index, applied, unread}
use Rattle.mapdefs.specs.Outcome.{and_then}
use Rattle.batches.specs.Command.{Reading, first_command, is_line_end, line_of, reading_of, reading_within, step, with_bytes, with_command, without_cr}
use Rattle.batches.specs.declared.command.Command.{Command}
use Rattle.batches.specs.declared.command.CommandFault.{CommandFault}
use Rattle.batches.specs.declared.command.CommandFault.TheVariants.{Short}
use Rattle.batches.specs.declared.command.CommandLine.{CommandLine}
use Rattle.batches.specs.declared.command.CommandLine.TheVariants.{Whole, Wants}
use Rattle.batches.specs.declared.command.Command.TheVariants.{Append}
use Rattle.batches.specs.declared.fault.CommandError.{CommandError}
use Rattle.batches.specs.declared.fault.CommandError.TheVariants as command_error
use Rattle.batches.specs.declared.fault.BatchFault.{BatchFault}
use Rattle.batches.specs.declared.fault.BatchKind.{BatchKind}
use Rattle.batches.specs.declared.fault.BatchKind.TheVariants as kind
use Rattle.mapdefs.specs.declared.map.MapFields.{MapFields}

-- the bytes after a command are no more than those after its line
line-within : (line : Option CommandLine) (rest : List ℕ) (r : Command × List ℕ) → with_bytes line rest ≡ Ok r → length r.1 ≤ length rest
line-within None rest r e = absurd (cc)
line-within (Some (Whole c)) rest r e = let is : (c, rest) ≡ r = cc in rw (← is) (omega arith)
line-within (Some (Wants count name)) rest r e = go (nat_lt (length rest) count) refl
  where
    go : (t : Bool) → nat_lt (length rest) count ≡ t → length r.1 ≤ length rest
    go true h = let clash : Err Short ≡ Ok r = rw h at e in absurd (cc)
    go false h =
        let some : Ok (Append name (take count rest), drop count rest) ≡ Ok r = rw h at e in
        let is : (Append name (take count rest), drop count rest) ≡ r = cc in
        rw (← is) (omega (arith, length-drop count rest))

-- a command takes at least one byte
front-shrinks : (bytes : List ℕ) (r : Command × List ℕ) → first_command bytes ≡ Ok r → length r.1 < length bytes
front-shrinks bytes r e = go (nat_lt (position_or_len is_line_end bytes) (length bytes)) refl
  where
    go : (t : Bool) → nat_lt (position_or_len is_line_end bytes) (length bytes) ≡ t → length r.1 < length bytes
    go true h =
        let has : position_or_len is_line_end bytes < length bytes = grind (arith, nat_tests) in
        let some = rw h at e in
        omega (arith, has, line-within (line_of (without_cr (before_first is_line_end bytes))) (after_first is_line_end bytes) r some, length-drop (position_or_len is_line_end bytes + 1) bytes)
    go false h = let clash : Err Short ≡ Ok r = rw h at e in absurd (cc)

-- more steps change nothing
step-same : (f g : List ℕ → Reading) (bytes : List ℕ) → ((rest : List ℕ) → length rest < length bytes → f rest ≡ g rest) → (r : Result (Command × List ℕ) CommandFault) →
    first_command bytes ≡ r → step r f ≡ step r g
step-same f g bytes same (Ok read) e = ap (with_command read.0) (same read.1 (front-shrinks bytes read e))
step-same f g bytes same (Err fault) e = refl

enough : (n m : ℕ) (bytes : List ℕ) → length bytes ≤ n → length bytes ≤ m → reading_within n bytes ≡ reading_within m bytes
unfolding reading_within
enough n m [] h k = refl
enough zero m (b ∷ bs) h k = absurd (omega arith)
enough (suc n) zero (b ∷ bs) h k = absurd (omega arith)
enough (suc n) (suc m) (b ∷ bs) h k =
    step-same (reading_within n) (reading_within m) (b ∷ bs) (λ rest short. enough n m rest (omega arith) (omega arith)) (first_command (b ∷ bs)) refl

-- reading gives the first command and what is read after it
pub reading-step : (bytes : List ℕ) → 1 ≤ length bytes → reading_of bytes ≡ step (first_command bytes) reading_of
unfolding reading_within
reading-step [] h = absurd (omega arith)
reading-step (b ∷ bs) h =
    step-same (reading_within (length bs)) reading_of (b ∷ bs) (λ rest short. enough (length bs) (length rest) rest (omega arith) (omega arith)) (first_command (b ∷ bs)) refl

-- one command is done, and the others remain
pub goes-on : (index : ℕ) (bytes rest : List ℕ) (c : Command) (m next : MapFields) → 1 ≤ length bytes → first_command bytes ≡ Ok (c, rest) → applied c m ≡ Ok next →
    after_reading index (reading_of bytes) m ≡ after_reading (index + 1) (reading_of rest) next
goes-on index bytes rest c m next some read done =
    let r : Reading = reading_of rest in
    ap (λ (x : Reading). after_reading index x m) (reading-step bytes some ∙ ap (λ x. step x reading_of) read)
    ∙ (ap (λ (d : Result MapFields BatchKind). and_then (and_then (at_command index d) (after (index + 1) r.commands)) (unread (index + length (c ∷ r.commands)) r.wrong)) done
    ∙ ap (λ (n : ℕ). and_then (after (index + 1) r.commands next) (unread n r.wrong)) (count index (length r.commands)))
  where
    count : (i n : ℕ) → i + suc n ≡ (i + 1) + n
    count i n = omega arith

-- a command fails
pub fails : (index : ℕ) (bytes rest : List ℕ) (c : Command) (m : MapFields) (k : BatchKind) → 1 ≤ length bytes → first_command bytes ≡ Ok (c, rest) → applied c m ≡ Err k →
    after_reading index (reading_of bytes) m ≡ Err (record { index = index; kind = k })
fails index bytes rest c m k some read fault =
    let r : Reading = reading_of rest in
    ap (λ (x : Reading). after_reading index x m) (reading-step bytes some ∙ ap (λ x. step x reading_of) read)
    ∙ ap (λ (d : Result MapFields BatchKind). and_then (and_then (at_command index d) (after (index + 1) r.commands)) (unread (index + length (c ∷ r.commands)) r.wrong)) fault

-- a command can't be read
pub unread-fails : (index : ℕ) (bytes : List ℕ) (m : MapFields) (fault : CommandFault) → 1 ≤ length bytes → first_command bytes ≡ Err fault →
    after_reading index (reading_of bytes) m ≡ Err (record { index = index; kind = kind.Unread fault })
unread-fails index bytes m fault some read =
    ap (λ (x : Reading). after_reading index x m) (reading-step bytes some ∙ ap (λ x. step x reading_of) read)
    ∙ ap (λ (n : ℕ). Err (record { index = n; kind = kind.Unread fault })) (none index)
  where
    none : (i : ℕ) → i + 0 ≡ i
    none i = omega arith

-- nothing remains
pub all-done : (index : ℕ) (bytes : List ℕ) (m : MapFields) → length bytes ≤ 0 → after_reading index (reading_of bytes) m ≡ Ok m
unfolding reading_within
all-done index [] m h = refl
all-done index (b ∷ bs) m h = absurd (omega arith)

-- whatever the error is
pub fails-as : (index : ℕ) (bytes rest : List ℕ) (c : Command) (m : MapFields) (total : Result MapFields BatchFault) (error : CommandError) → 1 ≤ length bytes → first_command bytes ≡ Ok (c, rest) →
    after_reading index (reading_of bytes) m ≡ total → IsErrorOf (applied c m) error → IsBatchErrorOf total (at_index index error)
fails-as index bytes rest c m total (command_error.Fault k) some read is e = sym is ∙ fails index bytes rest c m k some read e
fails-as index bytes rest c m total command_error.NoMemory some read is e = tt

-- what follows from the test for an empty rest
pub some-left : (rest : List ℕ) (empty : Bool) → empty ≡ (length rest == 0) → empty ≡ false → 1 ≤ length rest
some-left [] empty e f = absurd (cc)
some-left (b ∷ bs) empty e f = omega arith

pub none-left : (rest : List ℕ) (empty : Bool) → empty ≡ (length rest == 0) → empty ≡ true → length rest ≤ 0
none-left [] empty e f = omega arith
none-left (b ∷ bs) empty e f = let nothing : suc (length bs) ≡ 0 = eqb-true (suc (length bs)) 0 (sym e ∙ f) in absurd (omega arith)
