-- The homes of a vertex along a log.
use Rattle.std.proofs.Common.{◌≡◌, ◌≤◌, ◌∙◌, ap, length, ℕ, List, [], ◌∷◌, ◌++◌, refl, rules}
use Rattle.past_model.specs.declared.home.Home.{Home}
use Rattle.past_model.specs.declared.home.Home.TheVariants.{Block, Gapped, Tree}
use Rattle.past_model.specs.declared.entry.Entry.{Entry}
use Rattle.graph_model.specs.Graph.{Graph, degree}
use Rattle.past_model.specs.Edits.{after_batch}
use Rattle.past_model.specs.Past.{Past, IsPast, replay, base_graph, base_home}
use Rattle.past_model.specs.Homes.{home_of}
use Rattle.graph_model.proofs.Neighbours.{neighbours-outside}
use Rattle.past_model.specs.Homes.{home_after, home_along}
use Rattle.past_model.specs.HomeLaws.{HomesHold, HomesStay, HomeOfLonger}

home_along-push : (log : List Entry) (e : Entry) (g : Graph) (v : ℕ) (home : Home) → home_along (log ++ e ∷ []) g v home ≡ home_after (home_along log g v home) (degree (replay (log ++ e ∷ []) g) v)
home_along-push [] e g v home = refl
home_along-push (first ∷ log) e g v home =
    home_along-push log e (after_batch first.batch g) v (home_after home (degree (after_batch first.batch g) v))

pub home_of_longer : HomeOfLonger
home_of_longer p e v = home_along-push p.log e (base_graph p) v (base_home p v)

-- a home may keep what it gets
pub homes_hold : HomesHold
homes_hold Block d = search rules
homes_hold Gapped d = search rules
homes_hold Tree d = search rules

pub homes_stay : HomesStay
homes_stay Block d is = search rules
homes_stay Gapped d is = search rules
homes_stay Tree d is = search rules

-- a vertex outside stays in its block
block_stays : (log : List Entry) (g : Graph) (v : ℕ) → g.vertex_count ≤ v → home_along log g v Block ≡ Block
block_stays [] g v out = refl
block_stays (e ∷ log) g v out =
    let none : degree (after_batch e.batch g) v ≡ 0 = ap length (neighbours-outside (after_batch e.batch g) v out) in
    ap (λ d. home_along log (after_batch e.batch g) v (home_after Block d)) none ∙ block_stays log (after_batch e.batch g) v out

pub home_of-outside : (p : Past) (v : ℕ) → IsPast p → p.vertex_count ≤ v → home_of p v ≡ Block
home_of-outside p v is out = ap (home_along p.log (base_graph p) v) (is.homes v out) ∙ block_stays p.log (base_graph p) v out
