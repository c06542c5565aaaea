use Rattle.compose.proofs.Classifying.{drawn-none}
use Rattle.compose.proofs.paint.draw_feature.Goals as goal

pub returns-in_default : goal.returns-in_default
returns-in_default c = rw (← c.in_default.ensures) (drawn-none c.args.scene.now c.args.drawing.now)
