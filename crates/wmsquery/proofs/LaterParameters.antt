-- What comes after the parameter at fault changes nothing.
use Rattle.std.proofs.Common.{ℕ, ◌≡◌, ◌∙◌, ◌⊎◌, List, length, [], ◌∷◌, ◌++◌, All, Option, None, Some, ap, refl, sym, subst, inl, inr}
use Rattle.std.proofs.lemmas.List.Elements.{All-nil, All-cons, All-head, All-tail}
use Rattle.std.specs.Option.{option_map_or, option_and_then}
use Rattle.std.specs.Result.{result_ok, result_err}
use Rattle.operations.specs.declared.operation.Operation.{Operation}
use Rattle.operations.specs.declared.operation.Operation.TheVariants as operation
use Rattle.mapdefs.specs.declared.map.MapFields.{MapFields}
use Rattle.wmsquery.specs.declared.fault.Code.{Code}
use Rattle.wmsquery.specs.declared.fault.Parameter.{Parameter}
use Rattle.wmsquery.specs.declared.fault.Parameter.TheVariants as parameter
use Rattle.wmsquery.specs.declared.fault.WmsFault.{WmsFault}
use Rattle.wmsquery.specs.Meaning.{LaterChangesNothing}
use Rattle.wmsquery.specs.Order.{first_of, first_fault, order}
use Rattle.wmsquery.specs.Pairs.{Texts, pairs_of, texts_of, some_text, names_of}
use Rattle.wmsquery.specs.Query.{operation_in, refusal, looked_at}
use Rattle.wmsquery.specs.Values.{service_of, operation_of, version_of, layers_of, styles_of, system_of, area_of, side_of, format_of, transparent_of, background_of, asked_of, info_format_of, feature_count_of, pixel_of, sequence_of}
use Rattle.mapdefs.specs.Outcome.{and_then}

-- ---- on what the refusal of a parameter depends

-- the parameters on whose texts the refusal of a parameter depends, besides its own
abbrev bases : Parameter → List Parameter
bases parameter.Styles = parameter.Request ∷ parameter.Layers ∷ []
bases parameter.Bbox = parameter.Crs ∷ []
bases parameter.Format = parameter.Request ∷ []
bases parameter.QueryLayers = parameter.Layers ∷ []
bases parameter.Column = parameter.Width ∷ []
bases parameter.Row = parameter.Height ∷ []
bases _ = []

-- a parameter is among some
abbrev Among : Parameter → List Parameter → Type 0
Among p [] = ⊥
Among p (q ∷ qs) = (p ≡ q) ⊎ Among p qs

-- some parameters are among others
abbrev AreAmong : List Parameter → List Parameter → Type 0
AreAmong [] qs = Unit {0}
AreAmong (p ∷ ps) qs = Among p qs × AreAmong ps qs

-- each of some parameters has its bases among those before it and those that were seen already
abbrev IsClosed : List Parameter → List Parameter → Type 0
IsClosed seen [] = Unit {0}
IsClosed seen (p ∷ ps) = AreAmong (bases p) (p ∷ seen) × IsClosed (p ∷ seen) ps

module _ (t u : Texts) where
  -- both texts of a parameter are the same
  abbrev Same : Parameter → Type 0
  Same p = t p ≡ u p

  -- a parameter with the same texts, among those that have
  seen-same : (seen : List Parameter) (p : Parameter) → All Same seen → Among p seen → Same p
  seen-same [] p all among = absurd among
  seen-same (q ∷ qs) p all (inl is) = subst Same (sym is) (All-head Same q qs all)
  seen-same (q ∷ qs) p all (inr later) = seen-same qs p (All-tail Same q qs all) later

  -- parameters with the same texts
  abbrev AreSame : List Parameter → Type 0
  AreSame [] = Unit {0}
  AreSame (p ∷ ps) = Same p × AreSame ps

  bases-same : (seen ps : List Parameter) → All Same seen → AreAmong ps seen → AreSame ps
  bases-same seen [] all among = tt
  bases-same seen (p ∷ ps) all among = (seen-same seen p all among.0, bases-same seen ps all among.1)

  -- the refusal of a parameter is the same where its text and those of its bases are
  refusal-same : (map : MapFields) (sequence : ℕ) (p : Parameter) → Same p → AreSame (bases p) → refusal map sequence t p ≡ refusal map sequence u p
  refusal-same map sequence parameter.Service e b = ap (λ x. result_err (service_of (option_and_then some_text x))) e
  refusal-same map sequence parameter.Request e b = ap (λ x. result_err (operation_of (option_and_then some_text x))) e
  refusal-same map sequence parameter.Version e b = ap (λ x. result_err (version_of (option_and_then some_text x))) e
  refusal-same map sequence parameter.Layers e b = ap (λ x. result_err (layers_of map (names_of (option_and_then some_text x)))) e
  refusal-same map sequence parameter.Styles e b =
      λ i. result_err (and_then (operation_of (option_and_then some_text (b.0 i))) (λ o.
      styles_of o (length (names_of (option_and_then some_text (b.1.0 i)))) (e i)))
  refusal-same map sequence parameter.Crs e b = ap (λ x. result_err (system_of map.mercator (option_and_then some_text x))) e
  refusal-same map sequence parameter.Bbox e b =
      λ i. result_err (and_then (system_of map.mercator (option_and_then some_text (b.0 i))) (λ crs. area_of crs (option_and_then some_text (e i))))
  refusal-same map sequence parameter.Width e b = ap (λ x. result_err (side_of (option_and_then some_text x))) e
  refusal-same map sequence parameter.Height e b = ap (λ x. result_err (side_of (option_and_then some_text x))) e
  refusal-same map sequence parameter.Format e b =
      λ i. result_err (and_then (operation_of (option_and_then some_text (b.0 i))) (λ o. format_of map.png o (option_and_then some_text (e i))))
  refusal-same map sequence parameter.Transparent e b = ap (λ x. result_err (transparent_of (option_and_then some_text x))) e
  refusal-same map sequence parameter.Bgcolor e b = ap (λ x. result_err (background_of (option_and_then some_text x))) e
  refusal-same map sequence parameter.QueryLayers e b =
      λ i. result_err (asked_of map (names_of (option_and_then some_text (b.0 i))) (names_of (option_and_then some_text (e i))))
  refusal-same map sequence parameter.InfoFormat e b = ap (λ x. result_err (info_format_of (option_and_then some_text x))) e
  refusal-same map sequence parameter.FeatureCount e b = ap (λ x. result_err (feature_count_of (option_and_then some_text x))) e
  refusal-same map sequence parameter.Column e b =
      λ i. result_err (and_then (side_of (option_and_then some_text (b.0 i))) (λ side. pixel_of side (option_and_then some_text (e i))))
  refusal-same map sequence parameter.Row e b =
      λ i. result_err (and_then (side_of (option_and_then some_text (b.0 i))) (λ side. pixel_of side (option_and_then some_text (e i))))
  refusal-same map sequence parameter.UpdateSequence e b = ap (λ x. result_err (sequence_of sequence (option_and_then some_text x))) e

-- ---- the first fault

-- the code of a fault that is found refuses its parameter, whether that is the first or a later one
found-first : (refuses : Parameter → Option Code) (p : Parameter) (r : Option Code) (later : Option WmsFault) (f : WmsFault) → r ≡ refuses p →
    (later ≡ Some f → refuses f.parameter ≡ Some f.code) → first_of p r later ≡ Some f → refuses f.parameter ≡ Some f.code
found-first refuses p (Some code) later f is rest e =
    let parameter : p ≡ f.parameter = cc in
    let same : code ≡ f.code = cc in
    ap refuses (sym parameter) ∙ sym is ∙ ap Some same
found-first refuses p None later f is rest e = rest e

found-refuses : (refuses : Parameter → Option Code) (ps : List Parameter) (f : WmsFault) → first_fault refuses ps ≡ Some f → refuses f.parameter ≡ Some f.code
found-refuses refuses [] f e = absurd (cc)
found-refuses refuses (p ∷ ps) f e = found-first refuses p (refuses p) (first_fault refuses ps) f refl (found-refuses refuses ps f) e

-- the fault of a parameter doesn't depend on those that come later
last-one : (p : Parameter) (r : Option Code) (later other : Option WmsFault) (f : WmsFault) →
    (later ≡ Some f → r ≡ Some f.code) → first_of p r later ≡ Some f → first_of p r other ≡ Some f
last-one p (Some code) later other f sound e = e
last-one p None later other f sound e = absurd (none-some f.code (sound e))
  where
    none-some : (code : Code) → None ≡ Some code → ⊥
    none-some code e = cc

-- where the parameters after one have the same fault, it has the same fault, too
next-one : (p : Parameter) (r : Option Code) (a b : Option WmsFault) (f : WmsFault) → (a ≡ Some f → b ≡ Some f) → first_of p r a ≡ Some f → first_of p r b ≡ Some f
next-one p (Some code) a b f rest e = e
next-one p None a b f rest e = rest e

module _ (map : MapFields) (sequence : ℕ) (t u : Texts) where
  -- texts that are the same up to the parameter at fault have the same fault
  fault-same : (seen before : List Parameter) (f : WmsFault) (after later : List Parameter) → All (Same t u) seen →
      IsClosed seen (before ++ f.parameter ∷ after) → All (Same t u) (before ++ f.parameter ∷ []) →
      first_fault (refusal map sequence t) (before ++ f.parameter ∷ after) ≡ Some f → first_fault (refusal map sequence u) (before ++ f.parameter ∷ later) ≡ Some f
  fault-same seen [] f after later known closed same e =
      let own = All-head (Same t u) f.parameter [] same in
      let all = All-cons (Same t u) f.parameter seen own known in
      let r = refusal-same t u map sequence f.parameter own (bases-same t u (f.parameter ∷ seen) (bases f.parameter) all closed.0) in
      let found = last-one f.parameter (refusal map sequence t f.parameter) (first_fault (refusal map sequence t) after) (first_fault (refusal map sequence u) later) f
      (found-refuses (refusal map sequence t) after f) e in
      ap (λ c. first_of f.parameter c (first_fault (refusal map sequence u) later)) (sym r) ∙ found
  fault-same seen (p ∷ ps) f after later known closed same e =
      let own = All-head (Same t u) p (ps ++ f.parameter ∷ []) same in
      let all = All-cons (Same t u) p seen own known in
      let r = refusal-same t u map sequence p own (bases-same t u (p ∷ seen) (bases p) all closed.0) in
      let rest = fault-same (p ∷ seen) ps f after later all closed.1 (All-tail (Same t u) p (ps ++ f.parameter ∷ []) same) in
      let found = next-one p (refusal map sequence t p) (first_fault (refusal map sequence t) (ps ++ f.parameter ∷ after))
      (first_fault (refusal map sequence u) (ps ++ f.parameter ∷ later)) f rest e in
      ap (λ c. first_of p c (first_fault (refusal map sequence u) (ps ++ f.parameter ∷ later))) (sym r) ∙ found

-- ---- the order of a query

-- each parameter of an order comes after its bases
order-closed : (o : Option Operation) → IsClosed [] (parameter.Service ∷ parameter.Request ∷ option_map_or order o [])
order-closed None = (tt, (tt, tt))
order-closed (Some operation.Capabilities) = (tt, (tt, (tt, tt)))
order-closed (Some operation.Map) =
    (tt, (tt, (tt, (tt, ((inr (inr (inr (inl refl))), (inr (inl refl), tt)), (tt, ((inr (inl refl), tt), (tt, (tt, ((inr (inr (inr (inr (inr (inr (inr (inr (inl refl)))))))), tt), (tt, (tt, tt))))))))))))
order-closed (Some operation.Information) =
    (tt, (tt, (tt, (tt, ((inr (inr (inr (inl refl))), (inr (inl refl), tt)), (tt, ((inr (inl refl), tt), (tt, (tt, ((inr (inr (inr (inr (inr (inr (inr (inr (inl refl)))))))), tt), (tt, (tt, ((inr (inr (inr (inr (inr (inr (inr (inr (inr (inl refl))))))))), tt), (tt, (tt, ((inr (inr (inr (inr (inr (inr (inr (inr (inl refl)))))))), tt), ((inr (inr (inr (inr (inr (inr (inr (inr (inl refl)))))))), tt), tt)))))))))))))))))

-- the parameters that an operation has besides SERVICE and REQUEST
abbrev own : Texts → List Parameter
own t = option_map_or order (result_ok (operation_in t)) []

-- what comes after the parameter at fault in the other query
record IsOrderOf (u : Texts) (before : List Parameter) (p : Parameter) : Type 0 where
  pub later : List Parameter
  pub is : looked_at u ≡ before ++ p ∷ later

-- up to the parameter at fault both queries have the same order
other-order : (t u : Texts) (before : List Parameter) (p : Parameter) (after : List Parameter) → looked_at t ≡ before ++ p ∷ after →
    All (Same t u) (before ++ p ∷ []) → IsOrderOf u before p
other-order t u [] p after e same =
    let is : parameter.Service ≡ p = cc in
    record { later = parameter.Request ∷ own u; is = ap (λ q. q ∷ parameter.Request ∷ own u) is }
other-order t u (a ∷ []) p after e same =
    let first : parameter.Service ≡ a = cc in
    let second : parameter.Request ≡ p = cc in
    record { later = own u; is = λ i. first i ∷ second i ∷ own u }
other-order t u (a ∷ b ∷ more) p after e same =
    let second : parameter.Request ≡ b = cc in
    let both : Same t u b = All-head (Same t u) b (more ++ p ∷ []) (All-tail (Same t u) a (b ∷ more ++ p ∷ []) same) in
    let request : t parameter.Request ≡ u parameter.Request = subst (Same t u) (sym second) both in
    let order : looked_at u ≡ looked_at t =
    ap (λ x. parameter.Service ∷ parameter.Request ∷ option_map_or order (result_ok (operation_of (option_and_then some_text x))) []) (sym request) in
    record { later = after; is = order ∙ e }

-- later parameters change nothing
pub later-changes-nothing : LaterChangesNothing
later-changes-nothing map sequence a b f before after e same first =
    let t = texts_of (pairs_of a) in
    let u = texts_of (pairs_of b) in
    let other = other-order t u before f.parameter after e same in
    let closed = subst (IsClosed []) e (order-closed (result_ok (operation_in t))) in
    ap (first_fault (refusal map sequence u)) other.is
    ∙ fault-same map sequence t u [] before f after other.later (All-nil (Same t u)) closed same (ap (first_fault (refusal map sequence t)) (sym e) ∙ first)
