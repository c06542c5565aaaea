use Rattle.sharing_tests.proofs.meeting.result_of_meeting.Given as goal

-- the history and the state with which the map is opened
abbrev pub ghosts-served-S-Naming : goal.ghosts-served-S-Naming
ghosts-served-S-Naming g a = record { book = a.blank.seen.book }

abbrev pub ghosts-served-S-Sharing : goal.ghosts-served-S-Sharing
ghosts-served-S-Sharing g a = record { opening = a.machine.now }
