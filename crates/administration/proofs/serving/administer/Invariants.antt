use Rattle.std.proofs.Common.{◌≡◌}
use Rattle.streams.specs.Sides.{sides_view}
use Rattle.administration.specs.Serving.{attended}
use Rattle.administration.proofs.Steps.{HasCome}
use Rattle.administration.proofs.serving.administer.Given as goal

-- all commands read so far are done and reported
abbrev pub invariant-loop : goal.invariant-loop
invariant-loop g l = record {
  can_next : (goal.iterator-loop g).can_next l.iterator';
  is_finite : (goal.iterator-loop g).is_finite l.iterator';
  come : HasCome g.S.Sharing.opening (sides_view g.I.Source g.O.Sink) (attended l.fn.client l.fn.admin) (g.I.Source.left l.client.reader) l.admin l.client.writer;
  flag : g.O.Sink.put_failed l.client.writer ≡ g.O.Sink.put_failed l.fn.client.writer;
}
