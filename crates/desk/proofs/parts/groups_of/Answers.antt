use Rattle.std.proofs.Common.{◌≡◌, ◌≤◌, ℕ, ◌∙◌, sym, ap, length, map, take, replicate, true, Some, List, Bool, arith, rules}
use Rattle.std.proofs.lemmas.List.{length-map, length-replicate, take_at}
use Rattle.column.specs.declared.kind.Instant.{Instant}
use Rattle.column.specs.Kinds.{same_instant}
use Rattle.column.specs.Cells.{cells}
use Rattle.column.specs.Refusal.{column_refusal}
use Rattle.partition.specs.Peers.{peers}
use Rattle.partition.proofs.Groups.{peers_long}
use Rattle.turns.specs.declared.layout.Turn.{Turn}
use Rattle.desk.specs.Parts.{order_value, turn_groups}
use Rattle.desk.proofs.Grouping.{all_present, written, refused}
use Rattle.desk.proofs.parts.groups_of.Goals as goal

present : (turns : List Turn) (vs : List Instant) (ms : List Bool) → vs ≡ map (λ t. order_value t.order) turns → ms ≡ replicate (length turns) true → peers same_instant (cells vs ms) ≡ turn_groups turns
present turns vs ms p q =
    let e : cells vs ms ≡ map (λ t. Some (order_value t.order)) turns = rw (p, q) (all_present (λ t. order_value t.order) turns) in
    ap (peers same_instant) e

pub returns-in-Ok : goal.returns-in-Ok
returns-in-Ok c =
    let vs : c.as_slice.result.now ≡ map (λ t. order_value t.order) c.args.turns.now = search rules in
    let ms : c.as_slice-2.result.now ≡ replicate (length c.args.turns.now) true = search rules in
    let g = present c.args.turns.now c.as_slice.result.now c.as_slice-2.result.now vs ms in
    let w = written _ _ _ _ _ c.in-Ok.ensures.result c.in-Ok.ensures.list in
    c.truncate.ensures.items ∙ ap (take c.in-Ok.count) (take_at _ _ _ (search rules)) ∙ w ∙ g

pub returns : goal.returns
returns c =
    let turns = c.args.turns.now in
    let vs : c.as_slice.result.now ≡ map (λ t. order_value t.order) turns = search rules in
    let ms : c.as_slice-2.result.now ≡ replicate (length turns) true = search rules in
    let m : length c.as_slice.result.now ≡ length turns = ap length vs ∙ length-map turns (λ t. order_value t.order) in
    let k : length c.as_slice-2.result.now ≡ length turns = ap length ms ∙ length-replicate (length turns) true in
    let g = present turns c.as_slice.result.now c.as_slice-2.result.now vs ms in
    let groups = peers same_instant (cells c.as_slice.result.now c.as_slice-2.result.now) in
    let room : length groups ≤ length c.as_mut_slice.result.now = omega (arith, ap length g, peers_long same_instant (map (λ t. Some (order_value t.order)) turns), length-map turns (λ t. Some (order_value t.order)), c.as_mut_slice.ensures.len, c.in_ok-groups.ensures.len) in
    let x = refused (column_refusal (length c.as_slice.result.now) (length c.as_slice-2.result.now)) (length groups) (length c.as_mut_slice.result.now) c.in-Err.fault room c.in-Err.ensures.result in
    sym (ap (λ (n : ℕ). column_refusal n (length c.as_slice-2.result.now)) m ∙ ap (column_refusal (length turns)) k) ∙ x
