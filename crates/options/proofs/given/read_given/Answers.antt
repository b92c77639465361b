use Rattle.std.proofs.Common.{◌≡◌, [], ◌∷◌, ◌++◌, ◌+◌, rules, subst, vec_items, arith}
use Rattle.options.specs.Given.{Absent, Once, Reads, Run, width}
use Rattle.options.proofs.Givens.{once_more, run_more}
use Rattle.options.proofs.given.read_given.Goals as goal

pub loop-k-preserved : goal.loop-k-preserved
loop-k-preserved c =
    let one = c.in_ok-one.one in
    let before = vec_items c.loop-k.given in
    let reads : Reads c.args.words.now c.loop-k.k one = search rules in
    let pushed : vec_items c.push.new.self ≡ before ++ (one ∷ []) = search rules in
    let wide : c.width-k.result ≡ width one = search rules in
    let absent : Absent before one.key = subst (λ xs. Absent xs one.key) c.as_slice.ensures.value c.in_ok-expect_new.ensures in
    let run : Run c.args.words.now 0 (vec_items c.push.new.self) (c.loop-k.k + c.width-k.result) = rw (pushed, wide) (run_more _ 0 before c.loop-k.k one c.loop-k.invariant.0 reads) in
    let once : Once (vec_items c.push.new.self) = rw pushed (once_more before one c.loop-k.invariant.1 absent) in
    (run, once, omega (arith, reads.within, wide))
