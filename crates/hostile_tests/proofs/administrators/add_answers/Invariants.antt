use Rattle.hostile_tests.proofs.administrators.add_answers.Given as goal

-- the history and the state with which the map is opened
abbrev pub ghosts-answered-S-Naming : goal.ghosts-answered-S-Naming
ghosts-answered-S-Naming g a = record { book = a.blank.seen.book }

abbrev pub ghosts-answered-S-Sharing : goal.ghosts-answered-S-Sharing
ghosts-answered-S-Sharing g a = record { opening = a.machine.now }
