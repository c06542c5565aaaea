use Rattle.collide.proofs.marks.Marks.is_near.Goals as goal

pub returns-then-meets : goal.returns-then-meets
returns-then-meets c =
    let e = rw c.around.ensures at c.meets-then-meets.ensures in
    (λ h some. e.0 h, λ near. e.1 (near (c.meets.ensures.0 c.if-meets.true)))
