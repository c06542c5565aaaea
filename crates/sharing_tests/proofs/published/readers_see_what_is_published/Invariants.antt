use Rattle.sharing_tests.proofs.published.readers_see_what_is_published.Given as goal

-- the history and the state with which the map is opened
abbrev pub ghosts-play-S-Naming : goal.ghosts-play-S-Naming
ghosts-play-S-Naming g a = record { book = a.blank.seen.book }

abbrev pub ghosts-play-S-Sharing : goal.ghosts-play-S-Sharing
ghosts-play-S-Sharing g a = record { opening = a.machine.now }
