use Rattle.std.proofs.Common.{◌∙◌, ap, subst}
use Rattle.drawing.specs.Rows.{ShowsRows}
use Rattle.drawing.specs.Sources.{SeesAnswers, places}
use Rattle.picture.specs.Picture.{picture_text}
use Rattle.desk.proofs.drawn.draw_rows.Goals as goal

pub returns : goal.returns
returns c = record {
  seen = c.in_ok-seen.seen;
  sees = subst (λ x. SeesAnswers c.args.asked.now.function c.args.asked.now x c.in_ok-seen.seen) (c.in_ok-places.ensures ∙ ap (places c.args.asked.now.ignore_nulls c.args.columns.values.now c.args.turns.now) (c.as_slice.ensures.value ∙ c.in_ok-frames.ensures)) c.in_ok-seen.ensures;
  labels = c.in_ok-labels.labels.items;
  labelled = c.in_ok-labels.ensures;
  rows = c.in_ok-rows.rows.items;
  shows = subst (λ l. ShowsRows c.args.turns.now c.args.columns c.in_ok-seen.seen c.args.span l c.in_ok-rows.rows.items) c.as_slice-2.ensures.value c.in_ok-rows.ensures;
  title = c.args.title.now;
  drawn = c.in_ok-picture.ensures ∙ ap (picture_text c.args.title.now) c.as_slice-3.ensures.value;
}
