-- The bytes that a crash may leave of an append or a cut that is synced at once.
use Rattle.std.specs.Prelude.{◌⊎◌, ℕ, List}
use Rattle.journalfile.specs.Log.{Torn, Cut}

-- the bytes that a crash may leave of an append of these bytes to those that it might have left before
abbrev pub MayAppend : (List ℕ → Type 0) → List ℕ → (List ℕ → Type 0) → List ℕ → Type 0
MayAppend garbled bytes outcomes new = (old : List ℕ) × outcomes old × Torn garbled bytes old new

-- the bytes that it may leave of a cut
abbrev pub MayCut : ℕ → (List ℕ → Type 0) → List ℕ → Type 0
MayCut end outcomes new = outcomes new ⊎ ((old : List ℕ) × outcomes old × Cut end old new)
