use Rattle.std.proofs.Common.{◌∙◌, ap, codes, length}
use Rattle.picture.specs.Escape.{shown}
use Rattle.picture.specs.Picture.{head_text, rows_text}
use Rattle.picture.proofs.Appends.{three_appended}
use Rattle.picture.proofs.draw.draw.Goals as goal

pub returns : goal.returns
returns c =
    let head = head_text (length c.args.rows.now) in
    three_appended _ _ _ _ (head c.as_str.result.now) (head (shown 80 c.args.title.now)) (rows_text 0 c.args.rows.now) (codes "</svg>\n")
    c.new-text.ensures.bytes c.in_ok-write_head.ensures c.in_ok-write_rows.ensures c.in_ok-push_str.ensures.bytes (ap head (c.as_str.ensures.value ∙ c.in_ok-title.ensures))
