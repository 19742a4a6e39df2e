-- A version whose edges are given in sorted arrays.
use Rattle.std.specs.Prelude.{◌≡◌, ℕ, ◌+◌, ◌<◌, ◌≤◌, List, [], length, map}
use Rattle.graph_model.specs.Graph.{numbers_below}
use Rattle.past_model.specs.Past.{Past}
use Rattle.word_sets.specs.Words.{IsWithin}
use Rattle.shards.specs.Arrays.{start_at, list_of, first_home}

-- where the list of each of n vertices begins among the targets, and the end of them all: none begins before the one before it
pub record AreStarts (n : ℕ) (starts targets : List ℕ) : Type 0 where
  pub first : start_at starts 0 ≡ 0
  pub last : start_at starts n ≡ length targets
  pub ascending : (v : ℕ) → v < n → start_at starts v ≤ start_at starts (v + 1)

-- and the targets of each vertex are vertices, ascending, none of them twice
pub record AreSorted (n : ℕ) (starts targets : List ℕ) : Type 0 where
  pub count : length starts ≡ n + 1
  pub places : AreStarts n starts targets
  pub lists : (v : ℕ) → v < n → IsWithin 0 n (list_of starts targets v)

-- the past of which they are the base: a first epoch without a batch, each list in the home to which its degree leads
abbrev pub past_of : ℕ → List ℕ → List ℕ → Past
past_of n starts targets = record {
  vertex_count = n;
  base = record {
    rows = map (list_of starts targets) (numbers_below n);
    homes = map (λ v. first_home (list_of starts targets v)) (numbers_below n);
  };
  marks = [];
  log = [];
}
