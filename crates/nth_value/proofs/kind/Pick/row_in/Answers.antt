use Rattle.std.proofs.Common.{◌≡◌, ◌+◌, ◌-◌, ◌&&◌, max, cond, ltb, leb, Some, None, sym, ap, ◌∙◌, rules}
use Rattle.std.specs.List.{range_with_len}
use Rattle.nth_value.specs.declared.kind.Pick.{Pick}
use Rattle.nth_value.specs.Frames.{picked}
use Rattle.nth_value.proofs.Spans.{from_start, from_end}
use Rattle.nth_value.proofs.kind.Pick.row_in.Goals as goal

pub returns-in-FromStart : goal.returns-in-FromStart
returns-in-FromStart c =
    let s = c.args.frame.0 in
    let e = c.args.frame.1 in
    let m = c.in-FromStart.m in
    let r : c.filter.result ≡ cond (ltb (s + (m - 1)) e) (Some (s + (m - 1))) None = search rules in
    r ∙ from_start s e m ∙ ap (λ (p : Pick). picked p (range_with_len s (e - s))) (sym c.in-FromStart.is)

pub returns-in-FromEnd : goal.returns-in-FromEnd
returns-in-FromEnd c =
    let s = c.args.frame.0 in
    let e = c.args.frame.1 in
    let m = c.in-FromEnd.m in
    let r : c.filter-in-FromEnd.result ≡ cond (leb (max m 1) e && leb s (e - max m 1)) (Some (e - max m 1)) None = search rules in
    r ∙ from_end s e m ∙ ap (λ (p : Pick). picked p (range_with_len s (e - s))) (sym c.in-FromEnd.is)
