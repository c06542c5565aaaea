use Rattle.subcommands.proofs.Explaining.{of-files, of-map}
use Rattle.subcommands.proofs.reading.read_map_of.Goals as goal

pub returns-in-Err-into_map-clause-fault : goal.returns-in-Err-into_map-clause-fault
returns-in-Err-into_map-clause-fault g c =
    rw c.new-in-Err-into_map.ensures
    (of-files _ _ _ _ _ _ _ c.in-Ok.ensures.tree c.in_ok-files.ensures c.in-Err-into_map.ensures.fault c.file_message-message.ensures.unasked c.file_message-message.ensures.on)

pub returns-in-Ok-into_map-clause-map : goal.returns-in-Ok-into_map-clause-map
returns-in-Ok-into_map-clause-map g c =
    of-map _ _ _ _ _ c.in-Ok.ensures.tree c.in_ok-files.ensures c.in-Ok-into_map.ensures.map
