-- Files that can't be read (docs/SERVICE.md, "The program").
use Rattle.std.specs.Prelude.{Bool, true, false}
use Rattle.subcommands.specs.declared.unread.FileFault.{FileFault}
use Rattle.subcommands.specs.declared.unread.FileFault.TheVariants.{Unread, NoMemory}

-- the file can't be read
abbrev pub is_unread : FileFault → Bool
is_unread (Unread cause) = true
is_unread NoMemory = false
