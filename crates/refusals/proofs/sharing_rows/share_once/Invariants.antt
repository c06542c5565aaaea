use Rattle.refusals.proofs.sharing_rows.share_once.Given as goal

-- the history and the state with which the map is opened
abbrev pub ghosts-share-S-Naming : goal.ghosts-share-S-Naming
ghosts-share-S-Naming g a = record { book = a.blank.seen.book }

abbrev pub ghosts-share-S-Sharing : goal.ghosts-share-S-Sharing
ghosts-share-S-Sharing g a = record { opening = a.machine.now }
