-- Edits of one vertex put into its list.
use Rattle.std.specs.Prelude.{◌≡◌, ℕ, ◌+◌, Bool, if◌then◌else◌, List, [], Option, Some, length, filter, slice_index_or, slice_set}
use Rattle.graph_model.specs.Graph.{numbers_below}
use Rattle.past_model.specs.declared.edit.Edit.{Edit}
use Rattle.past_model.specs.declared.edit.Edit.TheVariants.{Insert, Remove}
use Rattle.past_model.specs.declared.home.Home.{Home}
use Rattle.past_model.specs.declared.home.Home.TheVariants.{Block, Gapped}
use Rattle.past_model.specs.declared.limits.TheConstants.{MOST_VERTICES}
use Rattle.past_model.specs.Edits.{target_of}
use Rattle.past_model.specs.Homes.{home_after}
use Rattle.gapped_array.specs.Table.{list_at}
use Rattle.word_sets.specs.Words.{has_word, with_word, without_word}
use Rattle.shards.specs.declared.counts.Counts.{Counts}
use Rattle.shards.specs.declared.lists.Lists.{Lists}
use Rattle.shards.specs.Lists.{rows_of, homes_of, IsPushed, IsReplaced}
use Rattle.shards.specs.Merge.{AreEditsFrom, IsMerged}

-- the words after one edit
abbrev pub put_words : Edit → List ℕ → List ℕ
put_words (Insert u t) xs = with_word t xs
put_words (Remove u t) xs = without_word t xs

-- the counts after one edit, whose target was in the list before or was not
abbrev pub put_counts : Edit → Bool → Counts → Counts
put_counts (Insert u t) there c = if there then c else record { added = c.added + 1; removed = c.removed }
put_counts (Remove u t) there c = if there then record { added = c.added; removed = c.removed + 1 } else c

-- one edit was put into a list of these words, and counted
pub record IsPut (e : Edit) (before : List ℕ) (counts : Counts) (after : List ℕ) (more : Counts) : Type 0 where
  pub words : after ≡ put_words e before
  pub counted : more ≡ put_counts e (has_word (target_of e) before) counts

-- a vertex of a graph with as many vertices as it may have, its list, and edits of it
pub record AreOwnEdits (es : List Edit) (row : List ℕ) : Type 0 where
  pub vertex : ℕ
  pub limit : ℕ
  pub has_target : ℕ → Bool
  pub small : limit ≡ MOST_VERTICES
  pub edits : AreEditsFrom vertex limit es
  pub list : row ≡ filter has_target (numbers_below limit)

-- the list of a vertex after its edits stands last among others, in the home to which it had to move
pub record IsPushedAfter (es : List Edit) (row : List ℕ) (home : Home) (more : Counts) (old new : Lists) : Type 0 where
  pub after : List ℕ
  pub to : Home
  pub pushed : IsPushed old new after to
  pub moved : to ≡ home_after home (length after)
  pub merged : (u n : ℕ) (p : ℕ → Bool) → AreEditsFrom u n es
      → row ≡ filter p (numbers_below n) → IsMerged es u n p after more

-- a list after edits, which may keep its home
pub record IsEditedAtHome (es : List Edit) (row : List ℕ) (home : Home) (more : Counts) (after : List ℕ) : Type 0 where
  pub stays : home ≡ home_after home (length after)
  pub merged : (u n : ℕ) (p : ℕ → Bool) → AreEditsFrom u n es
      → row ≡ filter p (numbers_below n) → IsMerged es u n p after more

-- a run of an array after edits, and all others as they were
pub record IsRunAfter (es : List Edit) (run : ℕ) (more : Counts) (old new : List (Option (List ℕ))) : Type 0 where
  pub edited : IsEditedAtHome es (list_at old run) Gapped more (list_at new run)
  pub rest : new ≡ slice_set old run (Some (list_at new run))

-- the list of a vertex after its edits stands where it stood, in the home that it may keep, and all others are as they were
pub record IsReplacedAfter (es : List Edit) (vertex : ℕ) (more : Counts) (old new : Lists) : Type 0 where
  pub after : List ℕ
  pub to : Home
  pub replaced : IsReplaced old new vertex after to
  pub moved : to ≡ home_after (slice_index_or (homes_of old) vertex Block) (length after)
  pub merged : (u n : ℕ) (p : ℕ → Bool) → AreEditsFrom u n es
      → slice_index_or (rows_of old) vertex [] ≡ filter p (numbers_below n) → IsMerged es u n p after more
