-- What a sink got of a text: `held` gives the bytes that it holds, where they are known, and `taken` how many it took.
use Rattle.std.specs.Prelude.{◌≡◌, ℕ, ◌+◌, ◌<◌, List, length, take, Option}
use Rattle.std.specs.Io.KnownBytes.{Appends}

-- all of a text went out
pub record IsSent {S : Type 0} (held : S → Option (List ℕ)) (taken : S → ℕ) (old : S) (text : List ℕ) (new : S) : Type 0 where
  pub bytes : Appends (held old) (held new) text
  pub count : taken new ≡ taken old + length text

-- exactly the first so many bytes of a text went out, and not all
pub record IsCut {S : Type 0} (held : S → Option (List ℕ)) (taken : S → ℕ) (old : S) (text : List ℕ) (written : ℕ) (new : S) : Type 0 where
  pub short : written < length text
  pub bytes : Appends (held old) (held new) (take written text)
  pub count : taken new ≡ taken old + written

-- the same for some number of bytes, which `taken` gives
abbrev pub IsCutSomewhere : {S : Type 0} → (S → Option (List ℕ)) → (S → ℕ) → S → List ℕ → S → Type 0
IsCutSomewhere held taken old text new = (written : ℕ) × IsCut held taken old text written new
