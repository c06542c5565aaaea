-- The bytes that a tape has had.
use Rattle.std.specs.Prelude.{◌≡◌, ◌⊎◌, ℕ, ◌≤◌, List, [], ◌∷◌, length, take, drop}
use mathlib.Core.Logic.{inl, inr}
use Rattle.test_logs.specs.declared.recording.Moment.{Moment}

-- a crash leaves so many of the first bytes, and not fewer than were synced
abbrev pub IsLeft : List ℕ → ℕ → List ℕ → Type 0
IsLeft bytes synced c = (n : ℕ) × (synced ≤ n) × (c ≡ take n bytes)

-- at one of these moments a crash might have left these bytes
abbrev pub WasOnce : List Moment → List ℕ → Type 0
WasOnce [] c = ⊥
WasOnce (instant ∷ past) c = IsLeft instant.bytes.items instant.synced c ⊎ WasOnce past c

none_left : (past : List Moment) (c : List ℕ) → WasOnce (drop (length past) past) c → ⊥
none_left [] c had = had
none_left (instant ∷ past) c had = none_left past c had

-- since the last moment there are the bytes that are there now
pub only_here : (past : List Moment) (bytes : List ℕ) (synced : ℕ) (c : List ℕ) → IsLeft bytes synced c ⊎ WasOnce (drop (length past) past) c → IsLeft bytes synced c
only_here past bytes synced c (inl now) = now
only_here past bytes synced c (inr had) = absurd (none_left past c had)
