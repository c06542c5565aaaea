use Rattle.commandline.proofs.arguments.service_of.Goals as goal

pub returns : goal.returns
returns c = record {
  port = c.in_ok-number_of.ensures;
  connections = c.in_ok-large_number_of.ensures;
  idle = c.in_ok-number_of-2.ensures;
  timeout = c.in_ok-number_of-3.ensures;
  admin_port = c.in_ok-number_of-4.ensures;
  workers = c.in_ok-number_of-5.ensures;
  checkpoint = c.in_ok-large_number_of-2.ensures;
  until_input_ends = c.flag_of.ensures;
  logs = c.flag_of-2.ensures;
  ranges = c.are_in_range.ensures c.if-not-are_in_range.false;
}
