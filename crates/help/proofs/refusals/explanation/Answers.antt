use Rattle.std.proofs.Common.{refl}
use Rattle.help.proofs.refusals.explanation.Goals as goal

pub returns-in-1-clause-begins : goal.returns-in-1-clause-begins
returns-in-1-clause-begins c = rw c.in-1.is refl

pub returns-in-2-clause-begins : goal.returns-in-2-clause-begins
returns-in-2-clause-begins c = rw c.in-2.is refl

pub returns-in-3-clause-begins : goal.returns-in-3-clause-begins
returns-in-3-clause-begins c = rw c.in-3.is refl

pub returns-in-4-clause-begins : goal.returns-in-4-clause-begins
returns-in-4-clause-begins c = rw c.in-4.is refl

pub returns-in-5-clause-begins : goal.returns-in-5-clause-begins
returns-in-5-clause-begins c = rw c.in-5.is refl

pub returns-in-6-clause-begins : goal.returns-in-6-clause-begins
returns-in-6-clause-begins c = rw c.in-6.is refl

pub returns-in-7-clause-begins : goal.returns-in-7-clause-begins
returns-in-7-clause-begins c = rw c.in-7.is refl

pub returns-in-8-clause-begins : goal.returns-in-8-clause-begins
returns-in-8-clause-begins c = rw c.in-8.is refl

pub returns-in-9-clause-begins : goal.returns-in-9-clause-begins
returns-in-9-clause-begins c = rw c.in-9.is refl

pub returns-in-10-clause-begins : goal.returns-in-10-clause-begins
returns-in-10-clause-begins c = rw c.in-10.is refl

pub returns-in-11-clause-begins : goal.returns-in-11-clause-begins
returns-in-11-clause-begins c = rw c.in-11.is refl

pub returns-in-12-clause-begins : goal.returns-in-12-clause-begins
returns-in-12-clause-begins c = rw c.in-12.is refl

pub returns-in-13-clause-begins : goal.returns-in-13-clause-begins
returns-in-13-clause-begins c = rw c.in-13.is refl

pub returns-in-14-clause-begins : goal.returns-in-14-clause-begins
returns-in-14-clause-begins c = rw c.in-14.is refl

pub returns-in-15-clause-begins : goal.returns-in-15-clause-begins
returns-in-15-clause-begins c = rw c.in-15.is refl

pub returns-in-16-clause-begins : goal.returns-in-16-clause-begins
returns-in-16-clause-begins c = rw c.in-16.is refl

pub returns-in-17-clause-begins : goal.returns-in-17-clause-begins
returns-in-17-clause-begins c = rw c.in-17.is refl

pub returns-in-18-clause-begins : goal.returns-in-18-clause-begins
returns-in-18-clause-begins c = rw c.in-18.is refl

pub returns-in-19-clause-begins : goal.returns-in-19-clause-begins
returns-in-19-clause-begins c = rw c.in-19.is refl

pub returns-in-20-clause-begins : goal.returns-in-20-clause-begins
returns-in-20-clause-begins c = rw c.in-20.is refl
