-- The first fault of some parameters in their order.
use Rattle.std.proofs.Common.{◌≡◌, ◌∙◌, List, [], ◌∷◌, ◌++◌, Option, None, Some, Result, Ok, Err, ap, refl, sym}
use Rattle.std.specs.Result.{result_err}
use Rattle.wmsquery.specs.declared.fault.Code.{Code}
use Rattle.wmsquery.specs.declared.fault.Parameter.{Parameter}
use Rattle.wmsquery.specs.declared.fault.WmsFault.{WmsFault}
use Rattle.wmsquery.specs.Order.{first_of, first_fault}
use Rattle.wmsquery.specs.Reading.{checked}
use Rattle.mapdefs.specs.Outcome.{and_then}

-- some parameters are not refused
abbrev pub AreAccepted : (Parameter → Option Code) → List Parameter → Type 0
AreAccepted refusal [] = Unit {0}
AreAccepted refusal (p ∷ ps) = (refusal p ≡ None) × AreAccepted refusal ps

-- then there is no fault
pub none-refused : (refusal : Parameter → Option Code) (ps : List Parameter) → AreAccepted refusal ps → first_fault refusal ps ≡ None
none-refused refusal [] h = refl
none-refused refusal (p ∷ ps) h = rw h.0 (none-refused refusal ps h.1)

-- nor is there of two stretches
accepted-both : (refusal : Parameter → Option Code) (ps qs : List Parameter) → AreAccepted refusal ps → AreAccepted refusal qs → AreAccepted refusal (ps ++ qs)
accepted-both refusal [] qs hp hq = hq
accepted-both refusal (p ∷ ps) qs hp hq = (hp.0, accepted-both refusal ps qs hp.1 hq)

pub none-both : (refusal : Parameter → Option Code) (ps qs : List Parameter) → AreAccepted refusal ps → AreAccepted refusal qs → first_fault refusal (ps ++ qs) ≡ None
none-both refusal ps qs hp hq = none-refused refusal (ps ++ qs) (accepted-both refusal ps qs hp hq)

-- a value that is checked first, and what follows with it
pub checked-then : {X Y : Type 0} (refusal : Parameter → Option Code) (p : Parameter) (ps : List Parameter) (x : Result X Code) (k : X → Result Y WmsFault) →
    refusal p ≡ result_err x → ((v : X) → x ≡ Ok v → result_err (k v) ≡ first_fault refusal ps) →
    result_err (and_then (checked p x) k) ≡ first_fault refusal (p ∷ ps)
checked-then refusal p ps (Ok v) k e rest = rw e (rest v refl)
checked-then refusal p ps (Err code) k e rest = rw e refl

-- a value that is checked last
pub checked-last : {X : Type 0} (refusal : Parameter → Option Code) (p : Parameter) (x : Result X Code) →
    refusal p ≡ result_err x → result_err (checked p x) ≡ first_fault refusal (p ∷ [])
checked-last refusal p (Ok v) e = rw e refl
checked-last refusal p (Err code) e = rw e refl

-- a fault, or else a later one
abbrev pub or_later : Option WmsFault → Option WmsFault → Option WmsFault
or_later (Some f) later = Some f
or_later None later = later

-- the fault of a parameter, or else that of two stretches
first_of-later : (p : Parameter) (r : Option Code) (a b : Option WmsFault) → first_of p r (or_later a b) ≡ or_later (first_of p r a) b
first_of-later p (Some code) a b = refl
first_of-later p None a b = refl

-- the fault of two stretches is that of the first, or else that of the second
pub stretches : (refusal : Parameter → Option Code) (ps qs : List Parameter) →
    first_fault refusal (ps ++ qs) ≡ or_later (first_fault refusal ps) (first_fault refusal qs)
stretches refusal [] qs = refl
stretches refusal (p ∷ ps) qs =
    ap (first_of p (refusal p)) (stretches refusal ps qs) ∙ first_of-later p (refusal p) (first_fault refusal ps) (first_fault refusal qs)

-- a stretch of parameters that is checked first, and what follows with its values
pub stretch-then : {X Y : Type 0} (refusal : Parameter → Option Code) (ps qs : List Parameter) (x : Result X WmsFault) (k : X → Result Y WmsFault) →
    result_err x ≡ first_fault refusal ps → ((v : X) → x ≡ Ok v → result_err (k v) ≡ first_fault refusal qs) →
    result_err (and_then x k) ≡ first_fault refusal (ps ++ qs)
stretch-then refusal ps qs (Ok v) k e rest =
    rest v refl ∙ ap (λ f. or_later f (first_fault refusal qs)) e ∙ sym (stretches refusal ps qs)
stretch-then refusal ps qs (Err f) k e rest = ap (λ g. or_later g (first_fault refusal qs)) e ∙ sym (stretches refusal ps qs)
