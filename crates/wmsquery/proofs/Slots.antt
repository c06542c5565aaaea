-- The texts in the slots so far, and the pairs that remain.
use Rattle.std.proofs.Common.{◌≡◌, ◌≢◌, ◌∙◌, ◌<◌, ◌⊎◌, ℕ, Bool, true, false, List, [], ◌∷◌, length, get_or, set, map, find, Option, None, Some, refl, sym, subst, ap, inl, inr, lit<, replicate, if◌then◌else◌}
use Rattle.std.proofs.Math.Bool.{true≢false}
use Rattle.std.proofs.lemmas.List.{get_or-set_same, get_or-set_other, length-set}
use Rattle.std.specs.Cmp.Lexicographic.{same_text}
use Rattle.std.specs.Option.{is_none}
use Rattle.std.specs.Str.{str_eq_ignore_ascii_case, str_to_ascii_lowercase, bytes_eq}
use Rattle.form_urlencoded.specs.Form.{DecodesTo}
use Rattle.wmsquery.specs.declared.fault.Parameter.{Parameter}
use Rattle.wmsquery.specs.declared.fault.Parameter.TheVariants as parameter
use Rattle.wmsquery.specs.declared.texts.TheConstants.{COUNT}
use Rattle.wmsquery.specs.Pairs.{Pair, Texts, text_of, pair_of, texts_of}
use Rattle.wmsquery.specs.Report.{parameter_text}
use Rattle.wmsquery.specs.Slots.{parameters, parameter_named, slot_of, kept, with_text, with_pair}

-- a text, or else a later one
abbrev pub or_later : Option (List ℕ) → Option (List ℕ) → Option (List ℕ)
or_later None later = later
or_later (Some text) later = Some text

-- no later one
pub or-none : (text : Option (List ℕ)) → or_later text None ≡ text
or-none None = refl
or-none (Some text) = refl

-- a test passes or fails
either : (b : Bool) → (b ≡ true) ⊎ (b ≡ false)
either true = inl refl
either false = inr refl

-- ---- a name is that of one parameter at most

-- the parameter with a name in lower case
abbrev lower_named : List ℕ → Option Parameter
lower_named name = find (λ p. bytes_eq name (str_to_ascii_lowercase (parameter_text p))) parameters

-- the name of each parameter is its own
own-name : (p : Parameter) → lower_named (str_to_ascii_lowercase (parameter_text p)) ≡ Some p
own-name parameter.Service = refl
own-name parameter.Request = refl
own-name parameter.Version = refl
own-name parameter.Layers = refl
own-name parameter.Styles = refl
own-name parameter.Crs = refl
own-name parameter.Bbox = refl
own-name parameter.Width = refl
own-name parameter.Height = refl
own-name parameter.Format = refl
own-name parameter.Transparent = refl
own-name parameter.Bgcolor = refl
own-name parameter.QueryLayers = refl
own-name parameter.InfoFormat = refl
own-name parameter.FeatureCount = refl
own-name parameter.Column = refl
own-name parameter.Row = refl
own-name parameter.UpdateSequence = refl

-- a name that is that of a parameter is that of no other
named-one : (name : List ℕ) (p : Parameter) → str_eq_ignore_ascii_case name (parameter_text p) ≡ true → parameter_named name ≡ Some p
named-one name p h =
    ap lower_named (same_text (str_to_ascii_lowercase name) (str_to_ascii_lowercase (parameter_text p)) (sym h)) ∙ own-name p

-- what a search has found passes
found-passes : {X : Type 0} (test : X → Bool) (xs : List X) (x : X) → find test xs ≡ Some x → test x ≡ true
found-passes test [] x h = absurd (cc)
found-passes test (y ∷ ys) x h =
    elim (either (test y)) [
      | inl passes ↦ let same : y ≡ x = cc in subst (λ z. test z ≡ true) same passes
      | inr fails ↦ found-passes test ys x (rw fails at h)
    ]

-- ---- the slots

-- the parameter of a slot
own-slot : (p : Parameter) → get_or parameters (slot_of p) parameter.Service ≡ p
own-slot parameter.Service = refl
own-slot parameter.Request = refl
own-slot parameter.Version = refl
own-slot parameter.Layers = refl
own-slot parameter.Styles = refl
own-slot parameter.Crs = refl
own-slot parameter.Bbox = refl
own-slot parameter.Width = refl
own-slot parameter.Height = refl
own-slot parameter.Format = refl
own-slot parameter.Transparent = refl
own-slot parameter.Bgcolor = refl
own-slot parameter.QueryLayers = refl
own-slot parameter.InfoFormat = refl
own-slot parameter.FeatureCount = refl
own-slot parameter.Column = refl
own-slot parameter.Row = refl
own-slot parameter.UpdateSequence = refl

-- a slot belongs to one parameter at most
slot-one : (p q : Parameter) → slot_of p ≡ slot_of q → p ≡ q
slot-one p q e = sym (own-slot p) ∙ ap (λ i. get_or parameters i parameter.Service) e ∙ own-slot q

-- each parameter has a slot
slot-within : (p : Parameter) → slot_of p < COUNT
slot-within parameter.Service = lit< tt
slot-within parameter.Request = lit< tt
slot-within parameter.Version = lit< tt
slot-within parameter.Layers = lit< tt
slot-within parameter.Styles = lit< tt
slot-within parameter.Crs = lit< tt
slot-within parameter.Bbox = lit< tt
slot-within parameter.Width = lit< tt
slot-within parameter.Height = lit< tt
slot-within parameter.Format = lit< tt
slot-within parameter.Transparent = lit< tt
slot-within parameter.Bgcolor = lit< tt
slot-within parameter.QueryLayers = lit< tt
slot-within parameter.InfoFormat = lit< tt
slot-within parameter.FeatureCount = lit< tt
slot-within parameter.Column = lit< tt
slot-within parameter.Row = lit< tt
slot-within parameter.UpdateSequence = lit< tt

-- the slot of a pair's parameter has its text, or else the pair's
kept-own : (slots : List (Option (List ℕ))) (value : List ℕ) (p : Parameter) (text later : Option (List ℕ)) → kept slots p ≡ text → slot_of p < length slots →
    or_later (get_or (if is_none text then set slots (slot_of p) (Some value) else slots) (slot_of p) None) later ≡ or_later text (Some value)
kept-own slots value p None later e within = ap (λ t. or_later t later) (get_or-set_same slots (slot_of p) (Some value) None within)
kept-own slots value p (Some text) later e within = ap (λ t. or_later t later) e

-- the slot of another parameter stays as it is
kept-other : (slots : List (Option (List ℕ))) (value : List ℕ) (p q : Parameter) (empty : Bool) → slot_of q ≢ slot_of p →
    get_or (if empty then set slots (slot_of p) (Some value) else slots) (slot_of q) None ≡ kept slots q
kept-other slots value p q true other = get_or-set_other slots (slot_of p) (slot_of q) (Some value) None other
kept-other slots value p q false other = refl

-- so it does where a name is that of another parameter, or of none
kept-unnamed : (slots : List (Option (List ℕ))) (name value : List ℕ) (q : Parameter) (named : Option Parameter) → parameter_named name ≡ named →
    str_eq_ignore_ascii_case name (parameter_text q) ≡ false → kept (with_text slots value named) q ≡ kept slots q
kept-unnamed slots name value q None e other = refl
kept-unnamed slots name value q (Some p) e other =
    let passes : str_eq_ignore_ascii_case name (parameter_text p) ≡ true =
    found-passes (λ r. str_eq_ignore_ascii_case name (parameter_text r)) parameters p e in
    kept-other slots value p q (is_none (kept slots p)) (λ same.
    true≢false (sym passes ∙ ap (λ r. str_eq_ignore_ascii_case name (parameter_text r)) (sym (slot-one q p same)) ∙ other))

-- a pair that was kept need not remain
kept-pair : (slots : List (Option (List ℕ))) (pair : Pair) (rest : List Pair) → length slots ≡ COUNT → (q : Parameter) →
    or_later (kept (with_pair slots pair.name pair.value) q) (texts_of rest q) ≡ or_later (kept slots q) (texts_of (pair ∷ rest) q)
kept-pair slots pair rest count q =
    elim (either (str_eq_ignore_ascii_case pair.name (parameter_text q))) [
      | inl same ↦
          rw (named-one pair.name q same, same)
          (kept-own slots pair.value q (kept slots q) (texts_of rest q) refl (subst (λ n. slot_of q < n) (sym count) (slot-within q)))
      | inr other ↦
          rw other (ap (λ t. or_later t (texts_of rest q)) (kept-unnamed slots pair.name pair.value q (parameter_named pair.name) refl other))
    ]

-- ---- what is kept and what remains

-- the slots have the texts, but for the pairs that remain
pub record HaveTexts (slots : List (Option (List ℕ))) (left : List Pair) (t : Texts) : Type 0 where
  pub count : length slots ≡ COUNT
  pub texts : (p : Parameter) → or_later (kept slots p) (texts_of left p) ≡ t p

-- at first all pairs remain
pub none-kept : (pairs : List Pair) → HaveTexts (replicate COUNT None) pairs (texts_of pairs)
none-kept pairs = record { count = refl; texts = all-left pairs }
  where
    all-left : (pairs : List Pair) (p : Parameter) → or_later (kept (replicate COUNT None) p) (texts_of pairs p) ≡ texts_of pairs p
    all-left pairs parameter.Service = refl
    all-left pairs parameter.Request = refl
    all-left pairs parameter.Version = refl
    all-left pairs parameter.Layers = refl
    all-left pairs parameter.Styles = refl
    all-left pairs parameter.Crs = refl
    all-left pairs parameter.Bbox = refl
    all-left pairs parameter.Width = refl
    all-left pairs parameter.Height = refl
    all-left pairs parameter.Format = refl
    all-left pairs parameter.Transparent = refl
    all-left pairs parameter.Bgcolor = refl
    all-left pairs parameter.QueryLayers = refl
    all-left pairs parameter.InfoFormat = refl
    all-left pairs parameter.FeatureCount = refl
    all-left pairs parameter.Column = refl
    all-left pairs parameter.Row = refl
    all-left pairs parameter.UpdateSequence = refl

-- as many slots as before
same-count : (slots : List (Option (List ℕ))) (value : List ℕ) (named : Option Parameter) → length (with_text slots value named) ≡ length slots
same-count slots value None = refl
same-count slots value (Some p) = either-count (is_none (kept slots p))
  where
    either-count : (empty : Bool) → length (if empty then set slots (slot_of p) (Some value) else slots) ≡ length slots
    either-count true = length-set slots (slot_of p) (Some value)
    either-count false = refl

-- the pairs that remain begin with the next one
left-first : (left more : List (List ℕ × List ℕ)) (n v name value : List ℕ) → left ≡ (n, v) ∷ more → DecodesTo n name → DecodesTo v value →
    map pair_of left ≡ record { name = name; value = value } ∷ map pair_of more
unfolding text_of
left-first left more n v name value e named valued = rw (e, ← named.2, ← valued.2) refl

-- the next pair is kept
pub next-kept : (slots : List (Option (List ℕ))) (left more : List (List ℕ × List ℕ)) (n v name value : List ℕ) (t : Texts) → left ≡ (n, v) ∷ more →
    DecodesTo n name → DecodesTo v value → HaveTexts slots (map pair_of left) t → HaveTexts (with_pair slots name value) (map pair_of more) t
next-kept slots left more n v name value t e named valued have =
    record {
      count = same-count slots value (parameter_named name) ∙ have.count;
      texts = λ p. kept-pair slots (record { name = name; value = value }) (map pair_of more) have.count p
          ∙ ap (λ pairs. or_later (kept slots p) (texts_of pairs p)) (sym (left-first left more n v name value e named valued)) ∙ have.texts p;
    }

-- at last none remains
pub all-kept : (slots : List (Option (List ℕ))) (t : Texts) → HaveTexts slots [] t → (p : Parameter) → kept slots p ≡ t p
all-kept slots t have p = sym (or-none (kept slots p)) ∙ have.texts p
