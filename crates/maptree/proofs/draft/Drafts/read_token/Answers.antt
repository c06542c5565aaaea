use Rattle.std.proofs.Common.{◌≡◌, ◌⊎◌, inl, inr, subst, Result, option_and_then}
use Rattle.std.proofs.lemmas.Result.{err_from_is_err_and}
use Rattle.maplex.specs.Token.{TokenValue}
use Rattle.mapwords.specs.declared.role.Block.{Block}
use Rattle.mapwords.specs.declared.role.Block.TheVariants as block
use Rattle.maptree.specs.declared.context.Context.TheVariants.{Keywords}
use Rattle.maptree.specs.declared.context.Move.{Move}
use Rattle.maptree.specs.declared.draft.Drafts.{Drafts}
use Rattle.mapwords.specs.declared.fault.Fault.{Fault}
use Rattle.mapwords.specs.Keyword.{keyword_at}
use Rattle.mapwords.specs.Fault.{IsErrorOf}
use Rattle.mapwords.specs.Given.{given_step}
use Rattle.maptree.specs.Step.{skip, note_step, read_token}
use Rattle.mapwords.specs.Table.{role_of}
use Rattle.maptree.proofs.draft.Drafts.read_token.Goals as goal

-- a block that is skipped
skip-read : (b : Block) (d : Drafts) (t : TokenValue) (r : Result (Move × Drafts) Fault) → (b ≡ block.Projection) ⊎ ((b ≡ block.Skipped) ⊎ (b ≡ block.SkippedLabel)) → skip b (option_and_then (role_of b) (keyword_at t)) d ≡ r → read_token (Keywords b) d t ≡ r
skip-read b d t r (inl p) h = rw p (subst (λ v. skip v (option_and_then (role_of v) (keyword_at t)) d ≡ r) p h)
skip-read b d t r (inr (inl p)) h = rw p (subst (λ v. skip v (option_and_then (role_of v) (keyword_at t)) d ≡ r) p h)
skip-read b d t r (inr (inr p)) h = rw p (subst (λ v. skip v (option_and_then (role_of v) (keyword_at t)) d ≡ r) p h)

pub returns-in-Projection : goal.returns-in-Projection
returns-in-Projection c =
    rw c.in-Keywords.is
    (skip-read c.in-Keywords.block c.args.self.now c.args.token.now _ c.in-Projection.is (c.skip.ensures c.args.self.now))

pub returns-in_err-step-in-Values : goal.returns-in_err-step-in-Values
returns-in_err-step-in-Values c =
    let p = err_from_is_err_and c.from_residual-in_err-step-in-Values.result c.from_residual-in_err-step-in-Values.ensures.1 in
    rw (c.in-Values.is, p.1, p.2)
    (subst (λ too_many. IsErrorOf (note_step c.in-Values.block (given_step too_many c.in-Values.expected c.args.token.now) c.args.self.now) c.in_err-step-in-Values.field-0.0)
    c.is_too_many-is_too_many.ensures (c.in_err-step-in-Values.ensures c.in-Values.block c.args.self.now))
