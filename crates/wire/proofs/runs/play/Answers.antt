use Rattle.std.proofs.Common.{◌≡◌, ◌≤◌, refl, ap, ◌∙◌, set, length, min, arith}
use Rattle.run.specs.declared.run.Run.TheVariants.{Opened}
use Rattle.wire.proofs.Playing.{playing_start, playing_more, playing_ends}
use Rattle.wire.proofs.runs.play.Goals as goal

pub loop-k-init : goal.loop-k-init
loop-k-init g c =
    let new = c.new.ensures in
    (playing_start _ _ _ _ _ _ _ _ _ _ _ _ (Opened c.new.result) new.renewed new.progress refl new.alike new.stands, refl, g.O.Output.laws.refl _)

pub loop-k-preserved : goal.loop-k-preserved
loop-k-preserved g c =
    let (playing, size, place) = c.loop-k.invariant in
    let put = c.put_answer.ensures in
    let acted = c.act-moved.ensures in (
      playing_more _ _ _ _ _ _ _ _ _ _ _ _ g.met.E.Evaluator.lawful c.loop-k.k c.loop-k.run c.act-moved.result.0 _ _ c.get.result c.act-moved.result.1 playing (omega (arith, c.loop-k-test.true, c.if-room-len.false)) c.get.ensures acted.acted acted.leaves (ap (set c.loop-k.outcomes c.loop-k.k) c.of.ensures) put.slots,
      put.size ∙ size,
      g.O.Output.laws.trans _ _ _ place put.place,
    )

pub returns-clause-ends : goal.returns-clause-ends
returns-clause-ends g c =
    let o = g.O.Output in
    let room : length c.args.calls.now.records.now ≤ min (length c.args.outcomes.now) (o.size (o.slots c.args.out.now)) = omega (arith, c.if-room-len.false, c.len.ensures, c.len-2.ensures, c.min-room.ensures) in
    let all : c.loop-k.k ≡ length c.args.calls.now.records.now = omega (arith, c.loop-k-test.false, c.loop-k.auto.k-end, c.len-k-end.ensures) in
    let (playing, _, _) = c.loop-k.invariant in
    playing_ends _ _ _ _ _ _ _ _ _ _ _ _ o.size c.loop-k.k c.loop-k.run _ _ room all playing c.finish.ensures
