-- One command of a script, and those after it.
use Rattle.std.proofs.Common.{◌≡◌, ◌∙◌, ℕ, zero, suc, ◌+◌, ◌<◌, ◌≤◌, Bool, true, false, List, [], ◌∷◌, length, drop, take, Option, None, Some, Result, Ok, Err, nat_lt, nat_eq, refl, sym, ap, arith, length-drop}
use Rattle.std.proofs.lemmas.Bool.Decides.{nat_tests}
use Rattle.std.specs.Prelude.{codes, if◌then◌else◌}
use Rattle.std.specs.List.{after_first, before_first, position_or_len, starts_with}
use Rattle.batches.specs.Command.{count_of, is_line_end}
use Rattle.scripts.specs.Script.{batch_of, command_of, first_command, has_line, with_command, with_event, script_within, fault_of}
use Rattle.mapmachine.specs.declared.reply.Event.{Event}
use Rattle.mapmachine.specs.declared.reply.Event.TheVariants.{Query, Batch}

-- the events of a script whose first command has this number
abbrev pub script_from : ℕ → List ℕ → Result (List Event) ℕ
script_from number script = script_within (length script) number script

-- the bytes after a batch are no more than those after its line
batch-within : (count : Option ℕ) (rest : List ℕ) (r : Event × List ℕ) → batch_of count rest ≡ Some r → length r.1 ≤ length rest
batch-within None rest r e = absurd (cc)
batch-within (Some count) rest r e = go (nat_lt (length rest) count) refl
  where
    go : (t : Bool) → nat_lt (length rest) count ≡ t → length r.1 ≤ length rest
    go true h = let clash : None ≡ Some r = rw h at e in absurd (cc)
    go false h =
        let some : Some (Batch (take count rest), drop count rest) ≡ Some r = rw h at e in
        let is : (Batch (take count rest), drop count rest) ≡ r = cc in
        rw (← is) (omega (arith, length-drop count rest))

line-within : (line rest : List ℕ) (r : Event × List ℕ) → command_of line rest ≡ Some r → length r.1 ≤ length rest
line-within line rest r e = query (starts_with nat_eq line (codes "QUERY ")) refl
  where
    batch : (t : Bool) → starts_with nat_eq line (codes "QUERY ") ≡ false → starts_with nat_eq line (codes "BATCH ") ≡ t → length r.1 ≤ length rest
    batch true other h = batch-within (count_of (drop 6 line)) rest r (rw (other, h) at e)
    batch false other h = let clash : None ≡ Some r = rw (other, h) at e in absurd (cc)

    query : (t : Bool) → starts_with nat_eq line (codes "QUERY ") ≡ t → length r.1 ≤ length rest
    query true h =
        let some : Some (Query (drop 6 line), rest) ≡ Some r = rw h at e in
        let is : (Query (drop 6 line), rest) ≡ r = cc in
        rw (← is) (omega arith)
    query false h = batch (starts_with nat_eq line (codes "BATCH ")) h refl

-- a command takes a byte at least
front-shrinks : (script : List ℕ) (r : Event × List ℕ) → first_command script ≡ Some r → length r.1 < length script
front-shrinks script r e = go (has_line script) refl
  where
    go : (t : Bool) → has_line script ≡ t → length r.1 < length script
    go true h =
        let has : position_or_len is_line_end script < length script = grind (arith, nat_tests) in
        let some = rw h at e in
        omega (arith, has, line-within (before_first is_line_end script) (after_first is_line_end script) r some, length-drop (position_or_len is_line_end script + 1) script)
    go false h = let clash : None ≡ Some r = rw h at e in absurd (cc)

-- more steps change nothing
step-same : (f g : List ℕ → Result (List Event) ℕ) (number : ℕ) (script : List ℕ) → ((rest : List ℕ) → length rest < length script → f rest ≡ g rest) →
    (r : Option (Event × List ℕ)) → first_command script ≡ r → with_command number r f ≡ with_command number r g
step-same f g number script same (Some read) e = ap (with_event read.0) (same read.1 (front-shrinks script read e))
step-same f g number script same None e = refl

-- a count of the bytes is enough
script_within-enough : (n m number : ℕ) (script : List ℕ) → length script ≤ n → length script ≤ m → script_within n number script ≡ script_within m number script
unfolding script_within
script_within-enough n m number [] h k = refl
script_within-enough zero m number (b ∷ bs) h k = absurd (omega arith)
script_within-enough (suc n) zero number (b ∷ bs) h k = absurd (omega arith)
script_within-enough (suc n) (suc m) number (b ∷ bs) h k =
    step-same (script_within n (number + 1)) (script_within m (number + 1)) number (b ∷ bs)
    (λ rest short. script_within-enough n m (number + 1) rest (omega arith) (omega arith)) (first_command (b ∷ bs)) refl

-- the events of a script are the first command, and the events of the bytes after it
pub script_from-step : (number : ℕ) (script : List ℕ) → 1 ≤ length script →
    script_from number script ≡ with_command number (first_command script) (script_from (number + 1))
unfolding script_within
script_from-step number [] h = absurd (omega arith)
script_from-step number (b ∷ bs) h =
    step-same (script_within (length bs) (number + 1)) (script_from (number + 1)) number (b ∷ bs)
    (λ rest short. script_within-enough (length bs) (length rest) (number + 1) rest (omega arith) (omega arith)) (first_command (b ∷ bs)) refl

-- the empty script has no events
pub script_from-nil : (number : ℕ) → script_from number [] ≡ Ok []
unfolding script_within
script_from-nil number = refl

-- a readable command has no fault of its own
pub fault-readable : (number : ℕ) (script : List ℕ) (event : Event) (after : List ℕ) → 1 ≤ length script → first_command script ≡ Some (event, after) →
    fault_of (script_from number script) ≡ fault_of (script_from (number + 1) after)
fault-readable number script event after some front =
    ap fault_of (script_from-step number script some ∙ ap (λ o. with_command number o (script_from (number + 1))) front) ∙ later (script_from (number + 1) after)
  where
    later : (others : Result (List Event) ℕ) → fault_of (with_event event others) ≡ fault_of others
    later (Ok events) = refl
    later (Err n) = refl

-- an unreadable command is the fault
pub fault-unreadable : (number : ℕ) (script : List ℕ) → 1 ≤ length script → first_command script ≡ None → fault_of (script_from number script) ≡ Some number
fault-unreadable number script some front =
    ap fault_of (script_from-step number script some ∙ ap (λ o. with_command number o (script_from (number + 1))) front)

-- a readable command at the start of a script is the first event, and the others follow it
pub events-step : (number : ℕ) (script : List ℕ) (event : Event) (after : List ℕ) (left : List Event) → 1 ≤ length script → first_command script ≡ Some (event, after) →
    script_from number script ≡ Ok left → (others : List Event) × (left ≡ event ∷ others) × (script_from (number + 1) after ≡ Ok others)
events-step number script event after left some front all =
    let step : with_event event (script_from (number + 1) after) ≡ Ok left =
    ap (λ o. with_command number o (script_from (number + 1))) (sym front) ∙ sym (script_from-step number script some) ∙ all in
    split (script_from (number + 1) after) step
  where
    split : (r : Result (List Event) ℕ) → with_event event r ≡ Ok left →
        (others : List Event) × (left ≡ event ∷ others) × (r ≡ Ok others)
    split (Ok events) e = (events, cc, refl)
    split (Err n) e = cc

-- where a script of events begins with no command, it has none
pub events-none : (number : ℕ) (script : List ℕ) (left : List Event) → first_command script ≡ None → script_from number script ≡ Ok left → left ≡ []
unfolding script_within
events-none number [] left front all = cc
events-none number (b ∷ bs) left front all =
    let step : with_command number None (script_from (number + 1)) ≡ Ok left =
    ap (λ o. with_command number o (script_from (number + 1))) (sym front) ∙ sym (script_from-step number (b ∷ bs) (omega arith)) ∙ all in
    cc
