use Rattle.std.proofs.Common.{◌≡◌, ℕ, ◌+◌, ◌<◌, ◌++◌, ◌∷◌, [], ◌∙◌, ap, arith, length, length-append, refl, slice_index_or, string_bytes, String, subst, sym}
use Rattle.std.proofs.lemmas.List.{get_or_default}
use Rattle.picture.specs.declared.row.Row.{Row}
use Rattle.drawing.specs.Rows.{ShowsRow, row_at}
use Rattle.drawing.proofs.Rising.{each_still}
use Rattle.drawing.proofs.rows.drawn_rows.Goals as goal

pub loop-k-preserved : goal.loop-k-preserved
loop-k-preserved c =
    let whole : c.push.new.self.items ≡ c.loop-k.rows.items ++ (c.drawn_row.result ∷ []) = c.in_ok-push.ensures.items in
    let inside : c.loop-k.k < length c.args.labels.now = omega (arith, c.loop-k-test.true, c.loop-k.auto.k-end, c.min-k-end.ensures) in
    let labelled : (f : String _) → c.as_str.result.now ≡ string_bytes (slice_index_or c.args.labels.now c.loop-k.k f) = λ f. c.as_str.ensures.value ∙ ap string_bytes (c.index-labels-k.is ∙ get_or_default c.args.labels.now c.loop-k.k c.index-labels-k.result f inside) in
    let shown : (f : String _) → ShowsRow c.args.columns c.args.seen.now c.args.span (c.args.span.from + c.loop-k.k) c.row_at-row.result (string_bytes (slice_index_or c.args.labels.now c.loop-k.k f)) c.drawn_row.result = λ f. subst (λ t. ShowsRow c.args.columns c.args.seen.now c.args.span (c.args.span.from + c.loop-k.k) c.row_at-row.result t c.drawn_row.result) (labelled f) c.drawn_row.ensures in
    let last : (f : String _) → ShowsRow c.args.columns c.args.seen.now c.args.span (c.args.span.from + c.loop-k.k) (row_at c.args.turns.now (c.args.span.from + c.loop-k.k)) (string_bytes (slice_index_or c.args.labels.now c.loop-k.k f)) c.drawn_row.result = rw (sym c.row_at-row.ensures) shown in
    record {
      within = omega (arith, c.loop-k-test.true, c.loop-k.auto.k-end);
      as_many = rw (whole, length-append c.loop-k.rows.items (c.drawn_row.result ∷ []), c.loop-k.invariant.as_many) refl;
      each = λ k d e below. each_still (λ k r. (e : String _) → ShowsRow c.args.columns c.args.seen.now c.args.span (c.args.span.from + k) (row_at c.args.turns.now (c.args.span.from + k)) (string_bytes (slice_index_or c.args.labels.now k e)) r) c.loop-k.rows.items c.push.new.self.items c.loop-k.k c.drawn_row.result (sym c.loop-k.invariant.as_many) whole (λ j x low f. c.loop-k.invariant.each j x f low) last k d below e;
    }
