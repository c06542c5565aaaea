use Rattle.mapparse.proofs.mapfile.Mapfile.into_map.Goals as goal

pub returns-clause-fault : goal.returns-clause-fault
returns-clause-fault c = rw (← c.self.view_is) c.map_of.ensures.fault
