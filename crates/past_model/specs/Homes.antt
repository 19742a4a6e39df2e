-- Where a vertex's neighbours are kept: by how many there are, and by where they were kept before.
use Rattle.std.specs.Prelude.{ℕ, ◌<◌, ◌≤◌, nat_le, if◌then◌else◌, List, [], ◌∷◌}
use Rattle.past_model.specs.declared.home.Home.{Home}
use Rattle.past_model.specs.declared.home.Home.TheVariants.{Block, Gapped, Tree}
use Rattle.past_model.specs.declared.home.TheConstants.{BLOCK_MOST, BLOCK_RETURN, ARRAY_MOST, ARRAY_RETURN}
use Rattle.past_model.specs.declared.entry.Entry.{Entry}
use Rattle.graph_model.specs.Graph.{Graph, degree}
use Rattle.past_model.specs.Edits.{after_batch}
use Rattle.past_model.specs.Past.{Past, base_graph, base_home}

-- the home of so many neighbours, where a block and an array may have at most these
abbrev pub home_within : ℕ → ℕ → ℕ → Home
home_within block array d = if nat_le d block then Block else (if nat_le d array then Gapped else Tree)

-- the home after a batch, by the home before it and the degree after it: what moved in stays for a while
abbrev pub home_after : Home → ℕ → Home
home_after Block d = home_within BLOCK_MOST ARRAY_MOST d
home_after Gapped d = home_within BLOCK_RETURN ARRAY_MOST d
home_after Tree d = home_within BLOCK_RETURN ARRAY_RETURN d

-- so many neighbours may be kept there
abbrev pub IsHomeOf : Home → ℕ → Type 0
IsHomeOf Block d = d ≤ BLOCK_MOST
IsHomeOf Gapped d = (BLOCK_RETURN < d) × (d ≤ ARRAY_MOST)
IsHomeOf Tree d = ARRAY_RETURN < d

-- the home of a vertex after the batches of a log, one after another
abbrev pub home_along : List Entry → Graph → ℕ → Home → Home
home_along [] g v home = home
home_along (e ∷ es) g v home =
    home_along es (after_batch e.batch g) v (home_after home (degree (after_batch e.batch g) v))

-- the home of a vertex in a version: at first that of its base
abbrev pub home_of : Past → ℕ → Home
home_of p v = home_along p.log (base_graph p) v (base_home p v)
