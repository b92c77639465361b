use Rattle.picture.proofs.Appends.{five_appended}
use Rattle.picture.proofs.draw.write_row.Goals as goal

pub returns : goal.returns
returns c = five_appended _ _ _ _ _ _ _ _ _ _ _ c.in_ok-write_label.ensures c.in_ok-write_box.ensures c.in_ok-write_source.ensures c.in_ok-write_answer.ensures c.in_ok-write_held.ensures
