use Rattle.std.proofs.Common.{vec_items, sym, ◌∙◌}
use Rattle.std.proofs.lemmas.List.{length-map}
use Rattle.sessions.proofs.Gathers.{bounded_all, lent_inside, lent_renewed}
use Rattle.sessions.proofs.Grouping.{within_all}
use Rattle.sessions.proofs.answers.last_renewed.Goals as goal

pub answer_sessions-requires : goal.answer_sessions-requires
answer_sessions-requires c = bounded_all c.in_ok-partitions.ensures.1 c.as_slice.ensures.value

pub gather-requires : goal.gather-requires
gather-requires c = lent_inside c.in_ok-partitions.ensures.0 c.as_slice.ensures.value c.in_ok-answers.ensures c.as_slice-3.ensures.value c.as_slice-2.ensures.value

pub returns : goal.returns
returns c =
    let cells = c.in_ok-partitions.partitions.cells in
    let grouped = c.in_ok-partitions.ensures.0 in (
      lent_renewed grouped c.as_slice.ensures.value c.in_ok-answers.ensures c.as_slice-3.ensures.value c.as_slice-2.ensures.value _ c.in_ok-cells.ensures,
      within_all _ grouped c.in_ok-partitions.ensures.1,
      c.len.ensures ∙ cells.ok.0 ∙ sym (length-map (vec_items cells) vec_items) ∙ grouped.sessions,
    )
