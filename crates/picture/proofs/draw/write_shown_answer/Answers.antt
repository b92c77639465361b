use Rattle.picture.proofs.draw.write_shown_answer.Goals as goal

pub returns : goal.returns
returns c = rw c.line-y.ensures at c.in_ok-write.ensures.bytes
