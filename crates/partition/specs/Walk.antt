-- Going through the peer groups of a column.
use Rattle.std.specs.Prelude.{Bool, List, drop}
use Rattle.column.specs.Cells.{column_cells}
use Rattle.partition.specs.declared.walk.PeerGroups.{PeerGroups}
use Rattle.partition.specs.Peers.{Group, peers_from}

-- the groups that are still to come
abbrev pub groups_left : {V : Type 0} → (V → V → Bool) → PeerGroups V → List Group
groups_left same w = peers_from same w.start (drop w.start (column_cells w.column))
