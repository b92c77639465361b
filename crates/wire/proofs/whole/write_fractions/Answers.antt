use Rattle.wire.proofs.whole.write_fractions.Goals as goal

pub returns-in-PercentRank : goal.returns-in-PercentRank
returns-in-PercentRank g c = rw c.in-PercentRank.is c.evaluate_numbers.ensures.call

pub returns-in-CumeDist : goal.returns-in-CumeDist
returns-in-CumeDist g c = rw c.in-CumeDist.is c.evaluate_numbers-in-CumeDist.ensures.call
