-- The features of the rows so far, and of those that are left.
use Rattle.std.proofs.Common.{◌≡◌, ◌<◌, ◌+◌, ℕ, true, false, List, [], ◌∷◌, ◌++◌, refl, ap, sym, arith, rules, ◌∙◌}
use Rattle.std.specs.Prelude.{nat_lt, Result, Ok, Err}
use Rattle.std.proofs.lemmas.List.{append-nil, append_assoc}
use Rattle.mapdefs.specs.declared.feature.FeatureFields.{FeatureFields}
use Rattle.csvpoints.specs.declared.fault.CsvError.{CsvError}
use Rattle.csvpoints.specs.declared.fault.CsvError.TheVariants.{Fault, NoMemory}
use Rattle.csvpoints.specs.declared.fault.CsvFault.{CsvFault}
use Rattle.csvpoints.specs.declared.fault.CsvKind.{CsvKind}
use Rattle.csvpoints.specs.declared.fault.CsvKind.TheVariants.{Limit}
use Rattle.csvpoints.specs.declared.header.Columns.{Columns}
use Rattle.csvpoints.specs.Fault.{IsFaultOf, at_row}
use Rattle.mapdefs.specs.Outcome.{and_then}
use Rattle.csvpoints.specs.Row.{feature_of}
use Rattle.csvpoints.specs.Table.{all_of, features_of}

-- what was read of the rows that are left, after the features so far
abbrev pub with_before : List FeatureFields → Result (List FeatureFields) CsvFault → Result (List FeatureFields) CsvFault
with_before so_far r = and_then r (λ others. Ok (so_far ++ others))

-- no row is left
pub none-after : (c : Columns) (limit n : ℕ) (so_far : List FeatureFields) (rows : List (List (List ℕ))) → rows ≡ [] →
    with_before so_far (features_of c limit n rows) ≡ Ok so_far
unfolding all_of
none-after c limit n so_far rows e = rw (e, append-nil so_far) refl

not-over : (limit index : ℕ) → index < limit → nat_lt (limit + 1) (index + 2) ≡ false
not-over limit index h = search rules

over : (limit : ℕ) → nat_lt (limit + 1) (limit + 2) ≡ true
over limit = search rules

one-before : (so_far : List FeatureFields) (f : FeatureFields) (r : Result (List FeatureFields) CsvFault) →
    with_before so_far (and_then r (λ others. Ok (f ∷ others))) ≡ with_before (so_far ++ f ∷ []) r
one-before so_far f (Ok fs) = ap Ok (sym (append_assoc so_far (f ∷ []) fs))
one-before so_far f (Err e) = refl

-- a row that has a feature
pub row-read : (c : Columns) (limit index : ℕ) (so_far : List FeatureFields) (fields : List (List ℕ)) (f : FeatureFields) (rows others : List (List (List ℕ))) →
    index < limit → feature_of c fields ≡ Ok f → rows ≡ fields ∷ others →
    with_before so_far (features_of c limit (index + 2) rows) ≡ with_before (so_far ++ f ∷ []) (features_of c limit (index + 1 + 2) others)
unfolding all_of
row-read c limit index so_far fields f rows others h e is =
    let next : index + 1 + 2 ≡ index + 2 + 1 = omega arith in
    rw (is, next, not-over limit index h, e) (one-before so_far f (features_of c limit (index + 2 + 1) others))

fault-from : (r : Result FeatureFields CsvKind) (n : ℕ) (fault : CsvFault) (so_far : List FeatureFields) (more : Result (List FeatureFields) CsvFault) →
    at_row n r ≡ Err fault → with_before so_far (and_then (at_row n r) (λ f. and_then more (λ fs. Ok (f ∷ fs)))) ≡ Err fault
fault-from r n fault so_far more e = rw e refl

-- a row that has a fault
pub row-fault : (c : Columns) (limit index : ℕ) (so_far : List FeatureFields) (fields : List (List ℕ)) (rows others : List (List (List ℕ)))
    (total : Result (List FeatureFields) CsvFault) (error : CsvError) → index < limit → rows ≡ fields ∷ others →
    with_before so_far (features_of c limit (index + 2) rows) ≡ total → IsFaultOf (at_row (index + 2) (feature_of c fields)) error → IsFaultOf total error
unfolding all_of
row-fault c limit index so_far fields rows others total (Fault fault) h is all e =
    sym all ∙ rw (is, not-over limit index h) (fault-from (feature_of c fields) (index + 2) fault so_far (features_of c limit (index + 2 + 1) others) e)
row-fault c limit index so_far fields rows others total NoMemory h is all e = tt

-- one row more than the limit
pub row-over : (c : Columns) (limit : ℕ) (so_far : List FeatureFields) (fields : List (List ℕ)) (rows others : List (List (List ℕ))) → rows ≡ fields ∷ others →
    with_before so_far (features_of c limit (limit + 2) rows) ≡ Err (record { row = limit + 2; kind = Limit })
unfolding all_of
row-over c limit so_far fields rows others is = rw (is, over limit) refl
