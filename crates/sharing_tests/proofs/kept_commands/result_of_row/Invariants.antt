use Rattle.sharing_tests.proofs.kept_commands.result_of_row.Given as goal

-- the history and the state with which the map is opened
abbrev pub ghosts-serve-S-Naming : goal.ghosts-serve-S-Naming
ghosts-serve-S-Naming g a = record { book = a.blank.seen.book }

abbrev pub ghosts-serve-S-Sharing : goal.ghosts-serve-S-Sharing
ghosts-serve-S-Sharing g a = record { opening = a.machine.now }
