use Rattle.service.proofs.threaded.serve_by_threads.Given as goal

-- the history and the state with which the map is opened
abbrev pub ghosts-serve_named-S-Naming : goal.ghosts-serve_named-S-Naming
ghosts-serve_named-S-Naming g a = record { book = a.map.blank.seen.book }

abbrev pub ghosts-serve_named-S-Sharing : goal.ghosts-serve_named-S-Sharing
ghosts-serve_named-S-Sharing g a = record { opening = a.map.kept.machine }
