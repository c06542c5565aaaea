use Rattle.std.proofs.Common.{List, ℕ}
use Rattle.administration.specs.Keeping.{IsKeptSince, NoneLost}
use Rattle.service.proofs.administering.administer_all.Given as goal

-- the batches accepted so far are kept, after those kept before
abbrev pub invariant-loop : goal.invariant-loop
invariant-loop g l = record {
  ready : (kept : List (List ℕ)) × g.K.Keeps.keeps l.keeper kept;
  keeps : (kept : List (List ℕ)) → g.K.Keeps.keeps l.fn.keeper kept → IsKeptSince g.K.Keeps.keeps l.fn.admin kept l.admin l.keeper;
  crash : NoneLost g.K.Keeps g.S.Sharing.opening l.fn.admin l.fn.keeper l.admin l.keeper;
}
