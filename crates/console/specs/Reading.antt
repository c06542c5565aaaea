-- Why an input was not read to its end (docs/SERVICE.md, "The program").
use Rattle.std.specs.Prelude.{Bool, true, false}
use Rattle.console.specs.declared.input.ReadFault.{ReadFault}
use Rattle.console.specs.declared.input.ReadFault.TheVariants.{Input, NoMemory}

-- the reader failed
abbrev pub is_input : ReadFault → Bool
is_input Input = true
is_input NoMemory = false
