use Rattle.refusals.proofs.sharing_rows.submit_row.Given as goal

-- the history and the state with which the map is opened
abbrev pub ghosts-submit_shared-S-Naming : goal.ghosts-submit_shared-S-Naming
ghosts-submit_shared-S-Naming g a = record { book = a.unshared.blank.seen.book }

abbrev pub ghosts-submit_shared-S-Sharing : goal.ghosts-submit_shared-S-Sharing
ghosts-submit_shared-S-Sharing g a = record { opening = a.unshared.machine.now }
