-- The graph of a past, and a past with one entry more.
use Rattle.std.proofs.Common.{◌≡◌, ℕ, ◌+◌, List, [], ◌∷◌, ◌++◌, refl, subst}
use Rattle.std.specs.List.{AllByRecursion}
use Rattle.std.proofs.lemmas.List.{length_push}
use Rattle.std.proofs.lemmas.Bool.{false≢true}
use Rattle.past_model.specs.declared.entry.Entry.{Entry}
use Rattle.graph_model.specs.Graph.{Graph, IsGraph, empty_graph}
use Rattle.past_model.specs.Edits.{after_batch, AreEditsBelow}
use Rattle.past_model.specs.Laws.{ReplayIsGraph}
use Rattle.past_model.specs.Past.{Past, IsPast, graph_of, base_graph, number_of, replay, longer, opening}
use Rattle.past_model.proofs.Batches.{IsGraph-after_batch}

replay-push : (log : List Entry) (e : Entry) (g : Graph) → replay (log ++ e ∷ []) g ≡ after_batch e.batch (replay log g)
replay-push [] e g = refl
replay-push (first ∷ log) e g = replay-push log e (after_batch first.batch g)

pub graph_of-longer : (p : Past) (e : Entry) → graph_of (longer p e) ≡ after_batch e.batch (graph_of p)
graph_of-longer p e = replay-push p.log e (base_graph p)

vertex_count-replay : (log : List Entry) (g : Graph) → (replay log g).vertex_count ≡ g.vertex_count
vertex_count-replay [] g = refl
vertex_count-replay (e ∷ log) g = vertex_count-replay log (after_batch e.batch g)

pub vertex_count-graph_of : (p : Past) → (graph_of p).vertex_count ≡ p.vertex_count
vertex_count-graph_of p = vertex_count-replay p.log (base_graph p)

pub number_of-longer : (p : Past) (e : Entry) → number_of (longer p e) ≡ number_of p + 1
number_of-longer p e = length_push p.log e

all_push : (P : Entry → Type 0) (xs : List Entry) (x : Entry) → AllByRecursion P xs → P x → AllByRecursion P (xs ++ x ∷ [])
all_push P [] x h here = (here, tt)
all_push P (y ∷ ys) x h here = (h.0, all_push P ys x h.1 here)

pub IsPast-longer : (p : Past) (e : Entry) → IsPast p → AreEditsBelow p.vertex_count e.batch → IsPast (longer p e)
IsPast-longer p e is below = record {
  base = is.base;
  homes = is.homes;
  log = all_push (λ f. AreEditsBelow p.vertex_count f.batch) p.log e is.log below;
}

pub IsGraph-empty_graph : (n : ℕ) → IsGraph (empty_graph n)
IsGraph-empty_graph n u v edge = absurd (false≢true edge)

IsGraph-replay : (n : ℕ) (log : List Entry) (g : Graph) → n ≡ g.vertex_count → AllByRecursion (λ e. AreEditsBelow n e.batch) log → IsGraph g → IsGraph (replay log g)
IsGraph-replay n [] g same below is = is
IsGraph-replay n (e ∷ log) g same below is =
    IsGraph-replay n log (after_batch e.batch g) same below.1 (IsGraph-after_batch e.batch g (subst (λ m. AreEditsBelow m e.batch) same below.0) is)

pub IsGraph-graph_of : ReplayIsGraph
IsGraph-graph_of p is = IsGraph-replay p.vertex_count p.log (base_graph p) refl is.log is.base

pub IsPast-opening : (n : ℕ) → IsPast (opening n)
IsPast-opening n = record { base = IsGraph-empty_graph n; homes = λ v le. refl; log = tt }
