-- What is open between two tokens (docs/MAPFILE.md, "Blocks and words").
use Rattle.std.specs.Prelude.{ℕ, Bool, true, false, List, ◌∷◌}
use Rattle.maplex.specs.Token.{TokenValue}
use Rattle.maptree.specs.declared.context.Context.{Context}
use Rattle.maptree.specs.declared.context.Context.TheVariants.{Values}
use Rattle.maptree.specs.declared.context.Move.{Move}
use Rattle.maptree.specs.declared.context.Move.TheVariants.{GoesOn, Enters, Leaves}

-- a context that is open, with the word that opened it and its line
pub record OpeningValue : Type 0 where
  pub context : Context
  pub word : List ℕ
  pub line : ℕ

-- a word opens a block, or values that it expects
abbrev pub opens_block : Context → Bool
opens_block (Values b expected) = false
opens_block _ = true

-- what a token opens
abbrev pub opening : Context → TokenValue → OpeningValue
opening context t = record { context = context; word = t.text; line = t.line }

-- what is open after a token in the innermost of these, the innermost first
abbrev pub opened : Move → TokenValue → OpeningValue → List OpeningValue → List OpeningValue
opened (GoesOn next) t o outer = record o { context = next } ∷ outer
opened (Enters inner) t o outer = opening inner t ∷ (o ∷ outer)
opened Leaves t o outer = outer
