use Rattle.sharing_tests.proofs.counts.result_of_count.Given as goal

-- the history and the state with which the map is opened
abbrev pub ghosts-opened-S-Naming : goal.ghosts-opened-S-Naming
ghosts-opened-S-Naming g a = record { book = a.blank.seen.book }

abbrev pub ghosts-opened-S-Sharing : goal.ghosts-opened-S-Sharing
ghosts-opened-S-Sharing g a = record { opening = a.machine.now }
