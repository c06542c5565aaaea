use Rattle.std.proofs.Common.{◌≡◌, ◌≤◌, ℕ, List, length, take, drop}
use Rattle.journal.specs.Texts.{texts_of}
use Rattle.administration.specs.Keeping.{IsKeptSince, NoneLost}
use Rattle.administration.specs.Serving.{AreSubmitted}
use Rattle.administration.proofs.keeping.accept_all.Given as goal

-- the first batches are done, as many as there are results
abbrev pub invariant-loop-rest : goal.invariant-loop-rest
invariant-loop-rest g l = record {
  rest : l.rest ≡ drop (length l.results) l.batches;
  few : length l.results ≤ length l.batches;
  done : AreSubmitted g.S.Sharing.opening l.fn.admin (take (length l.results) (texts_of l.batches)) l.results l.admin;
  ready : (kept : List (List ℕ)) × g.K.Keeps.keeps l.keeper kept;
  keeps : (kept : List (List ℕ)) → g.K.Keeps.keeps l.fn.keeper kept → IsKeptSince g.K.Keeps.keeps l.fn.admin kept l.admin l.keeper;
  crash : NoneLost g.K.Keeps g.S.Sharing.opening l.fn.admin l.fn.keeper l.admin l.keeper;
}

abbrev pub decreases-loop-rest : goal.decreases-loop-rest
decreases-loop-rest g l = length l.rest
