use Rattle.std.proofs.Common.{◌∙◌, sym, inl, inr}
use Rattle.clip.proofs.Cases.{none-crossed, some-crossed}
use Rattle.clip.proofs.class.classify_in.Goals as goal
use Rattle.clip.proofs.class.classify_in.Goals.{then-is_empty-via-then-is_empty, then-is_empty-via-else-is_empty+then-is_right_of_view}

pub returns-then-is_empty-clause-cases : goal.returns-then-is_empty-clause-cases
returns-then-is_empty-clause-cases c = elim c.then-is_empty.branch [
  | then-is_empty-via-then-is_empty w ↦ inl (none-crossed c.args.edge c.args.height c.args.rows c.requires (sym c.is_empty.ensures ∙ w.if-is_empty.true))
  | then-is_empty-via-else-is_empty+then-is_right_of_view w ↦ inr (sym w.is_right_of_view.ensures ∙ w.if-is_right_of_view.true)
]

pub returns-then-is_left_of_view-clause-cases : goal.returns-then-is_left_of_view-clause-cases
returns-then-is_left_of_view-clause-cases c = (
  some-crossed c.args.edge c.args.height c.args.rows c.requires (sym c.is_empty.ensures ∙ c.if-is_empty.false),
  sym c.is_right_of_view.ensures ∙ c.if-is_right_of_view.false,
  sym c.is_left_of_view.ensures ∙ c.if-is_left_of_view.true,
)

pub returns-clause-cases : goal.returns-clause-cases
returns-clause-cases c = (
  some-crossed c.args.edge c.args.height c.args.rows c.requires (sym c.is_empty.ensures ∙ c.if-is_empty.false),
  sym c.is_right_of_view.ensures ∙ c.if-is_right_of_view.false,
  sym c.is_left_of_view.ensures ∙ c.if-is_left_of_view.false,
)
