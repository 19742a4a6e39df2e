use Rattle.edge_map.proofs.Works.{all_done}
use Rattle.edge_map.proofs.map.map_allowed.Goals as goal

pub joined-requires-clause-all : goal.joined-requires-clause-all
joined-requires-clause-all g c = all_done _ _ _ _ _ c.in_ok-done.ensures c.count-claimed.ensures.each
