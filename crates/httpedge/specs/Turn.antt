-- What the rest of a stream requests first, and what follows it (docs/WMS.md, "HTTP").
use Rattle.std.specs.Prelude.{◌≡◌, ◌⊎◌, ℕ, List, [], ◌∷◌, ◌++◌, Bool, true, false, ◌||◌, if◌then◌else◌}
use Rattle.httparse.specs.Grammar.{RequestHead}
use Rattle.httpedge.specs.Fields.{announces_body, closes}
use Rattle.httpedge.specs.Head.{HasHead, HasNoHead}
use Rattle.httpedge.specs.Meaning.{Meaning, Nothing, Refused, head_meaning}
use Rattle.httpedge.specs.declared.refusal.Refusal.TheVariants.{BadRequest}

-- a meaning that ends the connection, or one and the bytes after its head
pub data Turn : Type 0 where
  Last : Meaning → Turn
  Further : Meaning → List ℕ → Turn

-- a head that announces a body is refused; one that closes, or the last that is allowed, ends the connection
abbrev pub head_turn : Bool → RequestHead → List ℕ → Turn
head_turn is_last head after =
    if announces_body head then Last (Refused BadRequest)
    else (if closes head || is_last then Last (head_meaning head) else Further (head_meaning head) after)

-- a rest without a head is refused, unless it is empty, and ends the connection
abbrev pub headless_turn : List ℕ → Turn
headless_turn [] = Last Nothing
headless_turn (byte ∷ bytes) = Last (Refused BadRequest)

-- the first turn of a rest
abbrev pub IsTurn : Bool → List ℕ → Turn → Type 0
IsTurn is_last rest turn =
    ((head : RequestHead) × (has : HasHead rest head) × (turn ≡ head_turn is_last head has.rest))
    ⊎ (HasNoHead rest × (turn ≡ headless_turn rest))

-- some bytes decide a turn, whatever follows them. The bytes after them belong to the turns after it
abbrev pub AlwaysTurns : Bool → List ℕ → Bool → Meaning → Type 0
AlwaysTurns is_last bytes true meaning = (more : List ℕ) → IsTurn is_last (bytes ++ more) (Last meaning)
AlwaysTurns is_last bytes false meaning = (more : List ℕ) → IsTurn is_last (bytes ++ more) (Further meaning more)

-- the law that a rest has one first turn
abbrev pub TurnIsOne : Type 0
TurnIsOne = (is_last : Bool) (rest : List ℕ) (a b : Turn) → IsTurn is_last rest a → IsTurn is_last rest b → a ≡ b
