-- A feature for each row.
use Rattle.std.proofs.Common.{◌≡◌, ◌+◌, ℕ, suc, List, [], ◌∷◌, length, refl, ap}
use Rattle.std.specs.Prelude.{Result, Ok, Err}
use Rattle.mapdefs.specs.declared.feature.FeatureFields.{FeatureFields}
use Rattle.csvpoints.specs.declared.fault.CsvFault.{CsvFault}
use Rattle.csvpoints.specs.declared.fault.CsvKind.{CsvKind}
use Rattle.csvpoints.specs.declared.header.Columns.{Columns}
use Rattle.csvpoints.specs.declared.table.TableFields.{TableFields}
use Rattle.csvpoints.specs.Fault.{at_row}
use Rattle.mapdefs.specs.Outcome.{and_then}
use Rattle.csvpoints.specs.Row.{columns_of}
use Rattle.csvpoints.specs.Table.{HasEachRow, all_of, features_of, numbered_feature}

-- where one more was read, all others were, too
one-more-read : (one : Result FeatureFields CsvFault) (others : Result (List FeatureFields) CsvFault) (n : ℕ) (fs : List FeatureFields) →
    ((gs : List FeatureFields) → others ≡ Ok gs → length gs ≡ n) →
    and_then one (λ f. and_then others (λ gs. Ok (f ∷ gs))) ≡ Ok fs → length fs ≡ suc n
one-more-read (Err e) others n fs more h = absurd (cc h)
one-more-read (Ok f) (Err e) n fs more h = absurd (cc h)
one-more-read (Ok f) (Ok gs) n fs more h = let is : fs ≡ f ∷ gs = cc h in rw is (ap suc (more gs refl))

features-count : (c : Columns) (limit n : ℕ) (rows : List (List (List ℕ))) (fs : List FeatureFields) → features_of c limit n rows ≡ Ok fs → length fs ≡ length rows
unfolding all_of
features-count c limit n [] fs h = let is : fs ≡ [] = cc h in rw is refl
features-count c limit n (row ∷ rows) fs h =
    one-more-read (numbered_feature c limit (n, row)) (features_of c limit (n + 1) rows) (length rows) fs (features-count c limit (n + 1) rows) h

table-rows : (columns : Result Columns CsvKind) (header : List (List ℕ)) (limit : ℕ) (rows : List (List (List ℕ))) (t : TableFields) →
    and_then (at_row 1 (and_then columns (λ (c : Columns). Ok (header, c, rows)))) (λ (h : List (List ℕ) × Columns × List (List (List ℕ))).
    and_then (features_of h.1 limit 2 h.2) (λ features. Ok (record { columns = h.0; features = features }))) ≡ Ok t →
    (t.columns ≡ header) × (length t.features ≡ length rows)
table-rows (Err e) header limit rows t h = absurd (cc h)
table-rows (Ok c) header limit rows t h = by (features_of c limit 2 rows) (features-count c limit 2 rows) h
  where
    by : (r : Result (List FeatureFields) CsvFault) → ((fs : List FeatureFields) → r ≡ Ok fs → length fs ≡ length rows) →
        and_then r (λ features. Ok (record { columns = header; features = features })) ≡ Ok t → (t.columns ≡ header) × (length t.features ≡ length rows)
    by (Err e) more h = absurd (cc h)
    by (Ok fs) more h = let is : t ≡ record { columns = header; features = fs } = cc h in rw is (refl, more fs refl)

-- the law
pub has-each-row : HasEachRow
has-each-row x y header limit rows t h = table-rows (columns_of x y header) header limit rows t h
