use Rattle.commandline.proofs.Written.{none, check, explained, run, run_explained, serve, served, timed, administered, ended, logged, kept, shortened, serve_explained}
use Rattle.commandline.proofs.laws.commands_are_written.Goals as goal

pub returns : goal.returns
returns c = record {
  none = none;
  check = check;
  explained = explained;
  run = run;
  run_explained = run_explained;
  serve = serve;
  served = served;
  timed = timed;
  administered = administered;
  ended = ended;
  logged = logged;
  kept = kept;
  shortened = shortened;
  serve_explained = serve_explained;
}
