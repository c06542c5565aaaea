-- What the value of a computation in steps says of its steps.
use Rattle.std.proofs.Common.{◌≡◌, Result, Ok, Err, refl}
use Rattle.wmsquery.specs.declared.fault.Code.{Code}
use Rattle.wmsquery.specs.declared.fault.Parameter.{Parameter}
use Rattle.wmsquery.specs.declared.fault.WmsFault.{WmsFault}
use Rattle.wmsquery.specs.Reading.{checked}
use Rattle.mapdefs.specs.Outcome.{and_then}

-- where there is a value at the end, the first step has a value, and the rest makes the value at the end from it
pub record HasSteps {X Y E : Type 0} (x : Result X E) (k : X → Result Y E) (y : Y) : Type 0 where
  pub first : X
  pub is : x ≡ Ok first
  pub rest : k first ≡ Ok y

pub steps : {X Y E : Type 0} (x : Result X E) (k : X → Result Y E) (y : Y) → and_then x k ≡ Ok y → HasSteps x k y
steps (Ok v) k y e = record { first = v; is = refl; rest = e }
steps (Err f) k y e = absurd (cc)

-- a value that is checked
pub unchecked : {X : Type 0} (p : Parameter) (x : Result X Code) (v : X) → checked p x ≡ Ok v → x ≡ Ok v
unchecked p (Ok w) v e = cc
unchecked p (Err code) v e = absurd (cc)

-- a value
abbrev ok : {X : Type 0} → X → Result X WmsFault
ok x = Ok x

-- is one
pub same-value : {X : Type 0} (a b : X) → ok a ≡ ok b → a ≡ b
same-value a b e = cc

-- and so is an error
abbrev err : {X : Type 0} → WmsFault → Result X WmsFault
err f = Err f

pub same-fault : {X : Type 0} (f g : WmsFault) → err {X = X} f ≡ err {X = X} g → f ≡ g
same-fault f g e = cc
