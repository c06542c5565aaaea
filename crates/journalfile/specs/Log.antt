-- The effect of the calls of a log on its bytes, and the bytes that a crash may leave (docs/developers/VERIFICATION.md, "The file of a journal").
use Rattle.std.specs.Prelude.{◌≡◌, ◌⊎◌, ℕ, ◌≤◌, List, ◌++◌, length, min}
use mathlib.Core.List.{IsPrefix}

-- after an append that a crash cuts short: the first of its bytes, or others in place of them, where a crash can garble them so
abbrev pub Torn : (List ℕ → Type 0) → List ℕ → List ℕ → List ℕ → Type 0
Torn garbled bytes old new = (left : List ℕ) × (new ≡ old ++ left) × (IsPrefix left bytes ⊎ garbled left)

-- after a cut that a crash interrupts: some length between
pub record Cut (end : ℕ) (old new : List ℕ) : Type 0 where
  pub no_shorter : min end (length old) ≤ length new
  pub front : IsPrefix new old

-- each new outcome of a crash is an old outcome after a step
abbrev pub Follows : (List ℕ → List ℕ → Type 0) → (List ℕ → Type 0) → (List ℕ → Type 0) → Type 0
Follows step old new = (c : List ℕ) → new c → (d : List ℕ) × old d × step d c

-- a crash leaves only bytes that it could have left before
abbrev pub NoOther : (List ℕ → Type 0) → (List ℕ → Type 0) → Type 0
NoOther old new = (c : List ℕ) → new c → old c

-- a crash leaves these bytes and no others
abbrev pub Only : List ℕ → (List ℕ → Type 0) → Type 0
Only file outcomes = (c : List ℕ) → outcomes c → c ≡ file

-- time goes on: a crash since t might have left bytes that it might have left before, or that it may leave now
pub record Elapses (before now : ℕ) (past since : ℕ → List ℕ → Type 0) (outcomes : List ℕ → Type 0) : Type 0 where
  pub later : before ≤ now
  pub nothing_else : (t : ℕ) (c : List ℕ) → t ≤ before → since t c → past t c ⊎ outcomes c
  pub keeps : (t : ℕ) (c : List ℕ) → t ≤ before → past t c → since t c
