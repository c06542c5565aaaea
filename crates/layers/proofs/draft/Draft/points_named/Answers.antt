use Rattle.layers.proofs.Drafting.{points-matched, points-within}
use Rattle.layers.proofs.draft.Draft.points_named.Goals as goal

pub returns-clause-value : goal.returns-clause-value
returns-clause-value c = rw (← c.self.view_is) (points-matched c.args.name.now c.self.inside.more.items c.self.inside.layers c.points_named.result c.points_named.ensures.value)

pub returns-clause-within : goal.returns-clause-within
returns-clause-within c = rw (← c.self.view_is) (points-within c.self.inside.more.items c.self.inside.layers c.points_named.result c.points_named.ensures.within)
