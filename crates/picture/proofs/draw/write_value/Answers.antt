use Rattle.picture.proofs.draw.write_value.Goals as goal

pub returns : goal.returns
returns c = rw (c.top-y.ensures, c.line-at.ensures) at c.in_ok-write.ensures.bytes
