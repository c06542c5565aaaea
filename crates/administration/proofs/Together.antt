-- Batches that come together.
use Rattle.std.proofs.Common.{◌≡◌, ℕ, ◌+◌, List, [], ◌∷◌, ◌++◌, Option, None, Some, length, map, refl, subst, arith, append_assoc, length-append}
use Rattle.std.proofs.lemmas.List.{map-append}
use Rattle.std.specs.Prelude.{MatchOption, Result, Ok, Err, OnOk}
use Rattle.std.specs.Io.KnownBytes.{Consumes}
use Rattle.std.proofs.KnownBytes.{Consumes-trans}
use Rattle.administration.specs.Commands.{Command, Submit}
use Rattle.administration.specs.Reading.{AreCommandsOf, IsCommandOf, IsHeldOf, StartWith}
use Rattle.administration.specs.declared.reading.ReadCommand.{ReadCommand}

-- commands, and then more
start-append : (one two : List Command) (bytes between rest : List ℕ) → StartWith one bytes between → StartWith two between rest → StartWith (one ++ two) bytes rest
start-append [] two bytes between rest same then = subst (λ (l : List ℕ). StartWith two l rest) same then
start-append (command ∷ one) two bytes between rest (after, first, others) then = (after, first, start-append one two after between rest others then)

-- one more command
pub commands-more : (bytes piece : List ℕ) (commands : List Command) (command : Command) → AreCommandsOf bytes commands → IsCommandOf piece command → AreCommandsOf (bytes ++ piece) (commands ++ command ∷ [])
commands-more bytes piece commands command are is more =
    rw (append_assoc bytes piece more)
    (start-append commands (command ∷ []) (bytes ++ (piece ++ more)) (piece ++ more) more (are (piece ++ more)) (more, is more, refl))

-- the batches that were read so far, and how many they are
pub record HaveCome (start left : Option (List ℕ)) (batches : List (List ℕ)) (count : ℕ) : Type 0 where
  pub bytes : List ℕ
  pub came : Consumes start left bytes
  pub commands : AreCommandsOf bytes (map Submit batches)
  pub counted : length batches ≡ count

-- one more
pub one-more-came : {E : Type 0} (start left after : Option (List ℕ)) (old new : List (List ℕ)) (count : ℕ) (asked : ReadCommand) (added : Result (Unit {0}) E) → HaveCome start left old count
    → (piece : List ℕ) × (command : Command) × Consumes left after piece × IsCommandOf piece command × IsHeldOf command asked
    → ((e : E) → added ≡ Err e → ⊥)
    → ((command : Command) → IsHeldOf command asked → OnOk added ((batch : List ℕ) × (command ≡ Submit batch) × (new ≡ old ++ batch ∷ [])))
    → HaveCome start after new (count + 1)
one-more-came start left after old new count asked (Err e) come read none add = absurd (none e refl)
one-more-came start left after old new count asked (Ok done) come (piece, command, came, is, held) none add =
    let (batch, submits, grown) = add command held in
    rw grown (record {
      bytes = come.bytes ++ piece;
      came = Consumes-trans start left after come.bytes piece come.came came;
      commands = rw (map-append Submit old (batch ∷ [])) (commands-more come.bytes piece (map Submit old) (Submit batch) come.commands (subst (IsCommandOf piece) submits is));
      counted = omega (arith, length-append old (batch ∷ []), come.counted);
    })

-- where there is no value
pub known-missing : {X : Type 0} (o : Option X) (P : Type 0) (Q : X → Type 0) → ((x : X) → o ≡ Some x → ⊥) → MatchOption o P Q → P
known-missing None P Q other p = p
known-missing (Some x) P Q other p = absurd (other x refl)
