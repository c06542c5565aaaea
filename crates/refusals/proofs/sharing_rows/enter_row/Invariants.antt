use Rattle.refusals.proofs.sharing_rows.enter_row.Given as goal

-- the history and the state with which the map is opened
abbrev pub ghosts-ask_shared-S-Naming : goal.ghosts-ask_shared-S-Naming
ghosts-ask_shared-S-Naming g a = record { book = a.blank.seen.book }

abbrev pub ghosts-ask_shared-S-Sharing : goal.ghosts-ask_shared-S-Sharing
ghosts-ask_shared-S-Sharing g a = record { opening = a.machine.now }
