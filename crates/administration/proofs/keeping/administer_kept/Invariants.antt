use Rattle.std.proofs.Common.{◌≡◌, ℕ, List}
use Rattle.administration.specs.Keeping.{IsKeptSince, NoneLost}
use Rattle.streams.specs.Sides.{sides_view}
use Rattle.administration.specs.Serving.{attended}
use Rattle.administration.proofs.Steps.{HasCome}
use Rattle.administration.proofs.keeping.administer_kept.Given as goal

-- all commands read so far are done and reported, and the accepted batches are kept
abbrev pub invariant-loop : goal.invariant-loop
invariant-loop g l = record {
  can_next : (goal.iterator-loop g).can_next l.iterator';
  is_finite : (goal.iterator-loop g).is_finite l.iterator';
  come : HasCome g.S.Sharing.opening (sides_view g.I.Source g.O.Sink) (attended l.fn.client l.fn.admin) (g.I.Source.left l.client.reader) l.admin l.client.writer;
  flag : g.O.Sink.put_failed l.client.writer ≡ g.O.Sink.put_failed l.fn.client.writer;
  ready : (kept : List (List ℕ)) × g.K.Keeps.keeps l.keeper kept;
  keeps : (kept : List (List ℕ)) → g.K.Keeps.keeps l.fn.keeper kept → IsKeptSince g.K.Keeps.keeps l.fn.admin kept l.admin l.keeper;
  crash : NoneLost g.K.Keeps g.S.Sharing.opening l.fn.admin l.fn.keeper l.admin l.keeper;
}
