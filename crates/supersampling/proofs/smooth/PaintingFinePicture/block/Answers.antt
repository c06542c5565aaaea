use Rattle.supersampling.proofs.smooth.PaintingFinePicture.block.Goals as goal

pub returns : goal.returns
returns g c = rw c.block-scene.ensures at c.draw_block.ensures
