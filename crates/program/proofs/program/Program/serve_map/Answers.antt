use Rattle.program.proofs.program.Program.serve_map.Goals as goal

pub returns-clause-serves : goal.returns-clause-serves
returns-clause-serves g c = rw c.in-Ok.ensures at c.serve_whole.ensures.serves
