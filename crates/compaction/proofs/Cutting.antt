-- The bytes of the first command of a batch, with other bytes behind them.
use Rattle.std.proofs.Common.{◌≡◌, ◌⊎◌, inl, inr, ◌∙◌, ℕ, suc, ◌+◌, ◌≤◌, Bool, true, false, List, [], ◌∷◌, ◌++◌, length, take, drop, Option, None, Some, Result, Ok, Err, nat_lt, refl, sym, ap, arith, length-append, append_assoc}
use Rattle.std.proofs.Math.Seq.{take-append_seam, drop-append_seam}
use Rattle.std.proofs.lemmas.List.{length-take-le, take-append-drop}
use Rattle.std.proofs.lemmas.Bool.Decides.{nat_tests}
use Rattle.std.specs.List.{list_any, position_or_len}
use Rattle.batches.specs.Command.{first_command, is_line_end, line_of, with_bytes, without_cr}
use Rattle.batches.specs.declared.command.Command.{Command}
use Rattle.batches.specs.declared.command.Command.TheVariants.{Append}
use Rattle.batches.specs.declared.command.CommandFault.{CommandFault}
use Rattle.batches.specs.declared.command.CommandFault.TheVariants.{Short}
use Rattle.batches.specs.declared.command.CommandLine.{CommandLine}
use Rattle.batches.specs.declared.command.CommandLine.TheVariants.{Whole, Wants}
use Rattle.batches.proofs.Writing.{cut-before, cut-after, cut-there}

-- some bytes up to the first LF, and those behind it
pub record HasLine (bytes line tail : List ℕ) : Type 0 where
  pub whole : bytes ≡ line ++ 10 ∷ tail
  pub plain : list_any is_line_end line ≡ false

is-end : (b : ℕ) → is_line_end b ≡ true → b ≡ 10
is-end b h = grind (arith, nat_tests)

pub line_there : (bytes : List ℕ) → ((line tail : List ℕ) × HasLine bytes line tail) ⊎ (list_any is_line_end bytes ≡ false)
line_there [] = inr refl
line_there (b ∷ bs) = go (is_line_end b) refl (line_there bs)
  where
    go : (t : Bool) → is_line_end b ≡ t → ((line tail : List ℕ) × HasLine bs line tail) ⊎ (list_any is_line_end bs ≡ false)
        → ((line tail : List ℕ) × HasLine (b ∷ bs) line tail) ⊎ (list_any is_line_end (b ∷ bs) ≡ false)
    go true h others = inl ([], bs, record { whole = ap (λ (x : ℕ). x ∷ bs) (is-end b h); plain = refl })
    go false h (inl (line, tail, has)) = inl (b ∷ line, tail, record { whole = ap (λ (x : List ℕ). b ∷ x) has.whole; plain = rw h has.plain })
    go false h (inr none) = inr (rw h none)

-- without an LF there is no command
none-len : (bytes : List ℕ) → list_any is_line_end bytes ≡ false → position_or_len is_line_end bytes ≡ length bytes
none-len [] h = refl
none-len (b ∷ bs) h = go (is_line_end b) refl (none-len bs)
  where
    go : (t : Bool) → is_line_end b ≡ t → (list_any is_line_end bs ≡ false → position_or_len is_line_end bs ≡ length bs) → position_or_len is_line_end (b ∷ bs) ≡ suc (length bs)
    go true e others = let clash : true ≡ false = rw e at h in absurd (cc)
    go false e others =
        let none : list_any is_line_end bs ≡ false = rw e at h in
        let more : 1 + position_or_len is_line_end bs ≡ suc (length bs) = omega (arith, others none) in
        rw e more

no-command : (bytes : List ℕ) → list_any is_line_end bytes ≡ false → first_command bytes ≡ Err Short
no-command bytes h =
    let none : nat_lt (position_or_len is_line_end bytes) (length bytes) ≡ false = grind (arith, nat_tests, none-len bytes h) in
    rw none refl

-- a command is that of its line and what follows it
pub with-line : (line more : List ℕ) → list_any is_line_end line ≡ false → first_command (line ++ 10 ∷ more) ≡ with_bytes (line_of (without_cr line)) more
with-line line more plain = rw (cut-there is_line_end line 10 more plain refl, cut-before is_line_end line 10 more plain refl, cut-after is_line_end line 10 more plain refl) refl

-- equal results of reading have equal parts
abbrev command_or : Command → Result (Command × List ℕ) CommandFault → Command
command_or c (Ok read) = read.0
command_or c (Err fault) = c

abbrev rest_or : List ℕ → Result (Command × List ℕ) CommandFault → List ℕ
rest_or x (Ok read) = read.1
rest_or x (Err fault) = x

read_parts : (c d : Command) (x y : List ℕ) → ◌≡◌ {A = Result (Command × List ℕ) CommandFault} (Ok (c, x)) (Ok (d, y)) → (c ≡ d) × (x ≡ y)
read_parts c d x y h = (ap (command_or c) h, ap (rest_or x) h)

-- a command is read from these bytes, whatever follows them
pub record IsCut (bytes front rest : List ℕ) (command : Command) : Type 0 where
  pub whole : bytes ≡ front ++ rest
  pub read : (more : List ℕ) → first_command (front ++ more) ≡ Ok (command, more)

-- a table of as many bytes as its line wants is read, whatever follows it
with-table : (name table more : List ℕ) → with_bytes (Some (Wants (length table) name)) (table ++ more) ≡ Ok (Append name table, more)
with-table name table more =
    let enough : nat_lt (length (table ++ more)) (length table) ≡ false = grind (arith, nat_tests, length-append table more) in
    rw (enough, take-append_seam table more, drop-append_seam table more) refl

module _ (line tail rest : List ℕ) (command : Command) (plain : list_any is_line_end line ≡ false) where
  of_line : (o : Option CommandLine) → line_of (without_cr line) ≡ o → with_bytes o tail ≡ Ok (command, rest) → (front : List ℕ) × IsCut (line ++ 10 ∷ tail) front rest command
  of_line None e h = absurd (cc)
  of_line (Some (Whole c)) e h =
      let same = read_parts c command tail rest h in
      let is : tail ≡ rest = same.1 in
      let one : c ≡ command = same.0 in (
        line ++ 10 ∷ [],
        record {
          whole = sym (append_assoc line (10 ∷ []) rest ∙ ap (λ (x : List ℕ). line ++ 10 ∷ x) (sym is));
          read = λ more.
              ap first_command (append_assoc line (10 ∷ []) more) ∙ with-line line more plain
              ∙ ap (λ (l : Option CommandLine). with_bytes l more) e ∙ ap (λ (x : Command). Ok (x, more)) one;
        },
      )
  of_line (Some (Wants count name)) e h = go (nat_lt (length tail) count) refl
    where
      go : (t : Bool) → nat_lt (length tail) count ≡ t → (front : List ℕ) × IsCut (line ++ 10 ∷ tail) front rest command
      go true f = absurd (cc (rw f at h))
      go false f =
          let got : ◌≡◌ {A = Result (Command × List ℕ) CommandFault} (Ok (Append name (take count tail), drop count tail)) (Ok (command, rest)) = rw f at h in
          let same : (Append name (take count tail) ≡ command) × (drop count tail ≡ rest) = read_parts (Append name (take count tail)) command (drop count tail) rest got in
          let is : drop count tail ≡ rest = same.1 in
          let one : Append name (take count tail) ≡ command = same.0 in
          let within : count ≤ length tail = grind (arith, nat_tests) in
          let len : length (take count tail) ≡ count = length-take-le count tail within in (
            line ++ 10 ∷ take count tail,
            record {
              whole = ap (λ (x : List ℕ). line ++ 10 ∷ x) (sym (take-append-drop count tail) ∙ ap (λ (x : List ℕ). take count tail ++ x) is) ∙ sym (append_assoc line (10 ∷ take count tail) rest);
              read = λ more.
                  let table = take count tail in
                  ap first_command (append_assoc line (10 ∷ table) more) ∙ with-line line (table ++ more) plain
                  ∙ ap (λ (l : Option CommandLine). with_bytes l (table ++ more)) (e ∙ ap (λ (n : ℕ). Some (Wants n name)) (sym len))
                  ∙ with-table name table more ∙ ap (λ (x : Command). Ok (x, more)) one;
            },
          )

fault_clash : {A : Type 0} (fault : CommandFault) (read : Command × List ℕ) → ◌≡◌ {A = Result (Command × List ℕ) CommandFault} (Err fault) (Ok read) → A
fault_clash fault read h = absurd (cc)

-- the first command of some bytes is cut from them
pub first_cut : (bytes rest : List ℕ) (command : Command) → first_command bytes ≡ Ok (command, rest) → (front : List ℕ) × IsCut bytes front rest command
first_cut bytes rest command h = go (line_there bytes)
  where
    go : ((line tail : List ℕ) × HasLine bytes line tail) ⊎ (list_any is_line_end bytes ≡ false) → (front : List ℕ) × IsCut bytes front rest command
    go (inr none) = fault_clash Short (command, rest) (sym (no-command bytes none) ∙ h)
    go (inl (line, tail, has)) =
        let read : with_bytes (line_of (without_cr line)) tail ≡ Ok (command, rest) =
        sym (with-line line tail has.plain) ∙ sym (ap first_command has.whole) ∙ h in
        let cut = of_line line tail rest command has.plain (line_of (without_cr line)) refl read in
        (cut.0, record { whole = has.whole ∙ cut.1.whole; read = cut.1.read })
