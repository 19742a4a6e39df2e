-- A store's history is the list of what it published: batches and rebases. It is kept in a book, and only grows.
use Rattle.std.specs.Prelude.{◌≡◌, ℕ, List, [], ◌∷◌, ◌++◌, length}
use Rattle.logbook.specs.Pages.{Book}
use Rattle.past_model.specs.declared.entry.Entry.{Entry}
use Rattle.past_model.specs.Past.{Past, opening, longer}
use Rattle.past_model.specs.Epochs.{rebased}
use Rattle.history.specs.declared.published.Published.{Published}
use Rattle.history.specs.declared.published.Published.TheVariants.{Batch, Rebase}

-- a version's moment: what it is the replay of, and the book in which its store keeps its history
pub record Moment : Type 0 where
  pub past : Past
  pub book : Book

-- nothing is published yet
abbrev pub opening_moment : ℕ → Book → Moment
opening_moment n b = record { past = opening n; book = b }

-- one batch more
abbrev pub after_entry : Moment → Entry → Moment
after_entry m e = record { past = longer m.past e; book = m.book }

-- a new epoch
abbrev pub after_rebase : Moment → Moment
after_rebase m = record { past = rebased m.past; book = m.book }

-- they are of the same store, and of as many vertices
abbrev pub OneStore : Moment → Moment → Type 0
OneStore a b = (b.book ≡ a.book) × (b.past.vertex_count ≡ a.past.vertex_count)

-- what comes of a past by a publication
abbrev pub after_one : Past → Published → Past
after_one p (Batch e) = longer p e
after_one p Rebase = rebased p

-- and by some, one after another
abbrev pub after_all : Past → List Published → Past
after_all p [] = p
after_all p (x ∷ xs) = after_all (after_one p x) xs

-- b is of the same store, and a itself or what publications made of it: its batches follow a's, and each epoch begins with the graph
-- that the one before it ended with
abbrev pub Begins : Moment → Moment → Type 0
Begins a b = OneStore a b × ((xs : List Published) × (b.past ≡ after_all a.past xs))

-- the first publications of the history that a book keeps
pub record Beginning : Type 0 where
  pub published : List Published
  pub book : Book

-- the moment of a version with so many vertices after these
abbrev pub moment_of : ℕ → Beginning → Moment
moment_of n k = record { past = after_all (opening n) k.published; book = k.book }

-- nothing published
abbrev pub nothing_published : Book → Beginning
nothing_published b = record { published = []; book = b }

-- one publication more
abbrev pub and_then : Beginning → Published → Beginning
and_then k x = record { published = k.published ++ x ∷ []; book = k.book }

-- how many publications they are
abbrev pub count_of : Beginning → ℕ
count_of k = length k.published
