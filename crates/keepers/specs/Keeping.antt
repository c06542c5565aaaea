-- Keepers of batches, of which there may be none.
use Rattle.std.specs.Prelude.{ℕ, List, Option, None, Some}

-- the keeper keeps these batches, if there is one; without a keeper nothing is required
abbrev pub keeps_of : {K : Type 0} → (K → List (List ℕ) → Type 0) → Option K → List (List ℕ) → Type 0
keeps_of keeps None batches = Unit {0}
keeps_of keeps (Some keeper) batches = keeps keeper batches

-- the moment of a keeper, if there is one
abbrev pub moment_of : {K : Type 0} → (K → ℕ) → Option K → ℕ
moment_of moment None = 0
moment_of moment (Some keeper) = moment keeper

-- a crash since a moment might have left a file, if there is a keeper
abbrev pub left_since_of : {K : Type 0} → (K → ℕ → List ℕ → Type 0) → Option K → ℕ → List ℕ → Type 0
left_since_of left_since None since file = ⊥
left_since_of left_since (Some keeper) since file = left_since keeper since file

-- a file stands for these batches, if there is a keeper
abbrev pub stands_of : {K : Type 0} → (K → List ℕ → List (List ℕ) → Type 0) → Option K → List ℕ → List (List ℕ) → Type 0
stands_of stands None file batches = Unit {0}
stands_of stands (Some keeper) file batches = stands keeper file batches

-- where nothing is done, a crash leaves the batches
pub option_stays : {K : Type 0} (keeps : K → List (List ℕ) → Type 0) (moment : K → ℕ) (left_since : K → ℕ → List ℕ → Type 0) (stands : K → List ℕ → List (List ℕ) → Type 0)
    → ((keeper : K) (batches : List (List ℕ)) (file : List ℕ) → keeps keeper batches → left_since keeper (moment keeper) file → stands keeper file batches)
    → (keeper : Option K) (batches : List (List ℕ)) (file : List ℕ) → keeps_of keeps keeper batches
    → left_since_of left_since keeper (moment_of moment keeper) file → stands_of stands keeper file batches
option_stays keeps moment left_since stands stays None batches file kept left = tt
option_stays keeps moment left_since stands stays (Some keeper) batches file kept left = stays keeper batches file kept left
