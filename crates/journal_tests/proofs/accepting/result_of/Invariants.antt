use Rattle.journal_tests.proofs.accepting.result_of.Given as goal

-- the history and the state with which the map is opened
abbrev pub ghosts-accept-S-Naming : goal.ghosts-accept-S-Naming
ghosts-accept-S-Naming g a = record { book = a.blank.seen.book }

abbrev pub ghosts-accept-S-Sharing : goal.ghosts-accept-S-Sharing
ghosts-accept-S-Sharing g a = record { opening = a.machine.now }
