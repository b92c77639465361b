use Rattle.std.proofs.Common.{refl}
use lib.Ieee.{div, of_int, round, units, odd, size, span, climb}
use Rattle.rank.proofs.cases_hold.Goals as goal

pub returns : goal.returns
unfolding div of_int round units odd size span climb
returns c = record {
  counted = refl;
  groups = refl;
  rank = refl;
  dense_rank = refl;
  percent_rank = refl;
  cume_dist = refl;
  one_row_percent_rank = refl;
  one_row_cume_dist = refl;
  null_groups = refl;
  null_rank = refl;
  null_dense_rank = refl;
}
