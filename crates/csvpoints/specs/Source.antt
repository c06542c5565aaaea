-- The records of a text, as the crate `csv` reads them with its default settings (docs/FILES.md, "CSV").
use Rattle.std.specs.Prelude.{◌≡◌, ℕ, suc, Bool, true, false, List, [], ◌∷◌, length, Option, Some}
use Rattle.std.specs.Borrow.{Bor}
use Rattle.std.specs.Option.{option_map_or}
use Rattle.csv.specs.Machine.{ends_at_end}
use Rattle.csv.specs.Reading.{Ready, default_config, records, records_from, source_of, strip_bom}
use Rattle.csv.specs.declared.reader.Reader.{Reader}
use Rattle.csv.specs.declared.reader.Trim.TheVariants as trim

-- the records of a text: the header is one of them, and a leading byte order mark is no part of it
abbrev pub records_of : List ℕ → List (List (List ℕ))
records_of text = records default_config (strip_bom text)

-- the bytes that a reader has left, if it has not failed
abbrev pub bytes_left : Reader (Bor (List ℕ)) → Option (List ℕ)
bytes_left reader = source_of (λ (s : Bor (List ℕ)). Some s.now) reader

-- the records that a reader has left
unfoldable pub left : Reader (Bor (List ℕ)) → List (List (List ℕ))
left reader = option_map_or (λ (xs : List ℕ). records_from default_config (suc (length xs)) reader.state xs) (bytes_left reader) []

-- a reader with the settings of the rule, which is between two records
pub record IsReading (reader : Reader (Bor (List ℕ))) : Type 0 where
  pub config : reader.config ≡ default_config
  pub untrimmed : reader.trim ≡ trim.None
  pub ready : Ready reader
  pub between : ends_at_end reader.state ≡ false
  pub bytes : List ℕ
  pub known : bytes_left reader ≡ Some bytes

-- one step of a reader: where it finds a record, that is the first of those that were left; where it finds none, none was left
abbrev pub Found : Bool → List (List ℕ) → Reader (Bor (List ℕ)) → Reader (Bor (List ℕ)) → Type 0
Found true fields old new = (left old ≡ fields ∷ left new) × IsReading new
Found false fields old new = left old ≡ []
