use Rattle.refusals.proofs.sharing_rows.accept_row.Given as goal

-- the history and the state with which the map is opened
abbrev pub ghosts-accept_shared-S-Naming : goal.ghosts-accept_shared-S-Naming
ghosts-accept_shared-S-Naming g a = record { book = a.unshared.blank.seen.book }

abbrev pub ghosts-accept_shared-S-Sharing : goal.ghosts-accept_shared-S-Sharing
ghosts-accept_shared-S-Sharing g a = record { opening = a.unshared.machine.now }
