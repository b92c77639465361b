use Rattle.picture.proofs.draw.write_head.Goals as goal

pub returns : goal.returns
returns c = rw c.top.ensures at c.in_ok-write.ensures.bytes
