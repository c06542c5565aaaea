use Rattle.refinement.proofs.Stepping.{breaks, compacts, crashes, retries, starts, stops, submits}
use Rattle.refinement.proofs.laws.calls_are_steps.Goals as goal

pub returns : goal.returns
returns g c = record {
  submits = submits g.row.L.Denot;
  breaks = breaks g.row.L.Denot;
  retries = retries g.row.L.Denot;
  compacts = compacts g.L.Log.content g.L.Log.may_leave;
  stops = stops g.row.L.Denot;
  crashes = crashes g.L.Log.content g.L.Log.may_leave;
  starts = starts g.L.Log.content g.L.Log.may_leave;
}
