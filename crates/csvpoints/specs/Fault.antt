-- Faults and the numbers of their kinds (docs/FILES.md, "CSV").
use Rattle.std.specs.Prelude.{◌≡◌, ℕ, Result, Ok, Err}
use Rattle.csvpoints.specs.declared.fault.CsvKind.{CsvKind}
use Rattle.csvpoints.specs.declared.fault.CsvKind.TheVariants.{NoHeader, NoColumn, BadNumber, Uneven, NotText, Limit}
use Rattle.csvpoints.specs.declared.fault.CsvFault.{CsvFault}
use Rattle.csvpoints.specs.declared.fault.CsvError.{CsvError}
use Rattle.csvpoints.specs.declared.fault.CsvError.TheVariants.{Fault, NoMemory}

-- the number of a kind
abbrev pub number_of : CsvKind → ℕ
number_of NoHeader = 1
number_of NoColumn = 2
number_of BadNumber = 3
number_of Uneven = 4
number_of NotText = 5
number_of Limit = 6

-- what is wrong with a record is the fault at its number
abbrev pub at_row : {A : Type 0} → ℕ → Result A CsvKind → Result A CsvFault
at_row number (Ok a) = Ok a
at_row number (Err kind) = Err (record { row = number; kind = kind })

-- the error is the fault of this reading, or memory was refused
abbrev pub IsFaultOf : {A : Type 0} → Result A CsvFault → CsvError → Type 0
IsFaultOf reading (Fault fault) = reading ≡ Err fault
IsFaultOf reading NoMemory = Unit {0}
