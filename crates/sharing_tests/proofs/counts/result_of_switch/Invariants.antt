use Rattle.sharing_tests.proofs.counts.result_of_switch.Given as goal

-- the history and the state with which the map is opened
abbrev pub ghosts-switched-S-Naming : goal.ghosts-switched-S-Naming
ghosts-switched-S-Naming g a = record { book = a.blank.seen.book }

abbrev pub ghosts-switched-S-Sharing : goal.ghosts-switched-S-Sharing
ghosts-switched-S-Sharing g a = record { opening = a.machine.now }
