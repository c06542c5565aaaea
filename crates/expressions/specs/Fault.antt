-- How reading ends (docs/MAPFILE.md, "Expressions").
use Rattle.std.specs.Prelude.{◌≡◌, ℕ, List, Option, None}
use Rattle.mapdefs.specs.declared.expr.Expr.{Expr}
use Rattle.expressions.specs.declared.fault.ExprError.{ExprError}
use Rattle.expressions.specs.declared.fault.ExprError.TheVariants as error
use Rattle.expressions.specs.declared.fault.ReadingError.{ReadingError}
use Rattle.expressions.specs.declared.fault.ReadingError.TheVariants as stop
use Rattle.expressions.specs.Grammar.{IsLogic}

-- reading stops where it gives nothing, or memory was refused
abbrev pub IsStop : {A : Type 0} → Option A → ReadingError → Type 0
IsStop reading (stop.Fault left) = reading ≡ None
IsStop reading stop.NoMemory = Unit {0}

-- a text is refused that is no Logic, or memory was refused
abbrev pub IsRefusal : List ℕ → ExprError → Type 0
IsRefusal text (error.Fault fault) = (e : Expr) → IsLogic text e → ⊥
IsRefusal text error.NoMemory = Unit {0}
