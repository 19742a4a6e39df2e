-- The edits that three arrays spell.
use Rattle.std.specs.Prelude.{ℕ, ◌==◌, if◌then◌else◌, List, map, length, slice_index}
use Rattle.past_model.specs.declared.edit.Edit.{Edit}
use Rattle.past_model.specs.declared.edit.Edit.TheVariants.{Insert, Remove}
use Rattle.past_model.specs.declared.entry.Entry.{Entry}
use Rattle.graph_model.specs.Graph.{numbers_below}

-- an edge that is put in, or taken out where the mark is not 0
abbrev pub edit_of : ℕ → ℕ → ℕ → Edit
edit_of source target remove = if remove == 0 then Insert source target else Remove source target

-- the edit at a place
abbrev pub edit_at : List ℕ → List ℕ → List ℕ → ℕ → Edit
edit_at sources targets removes place = edit_of (slice_index sources place) (slice_index targets place) (slice_index removes place)

-- one edit for each source
abbrev pub spelled : List ℕ → List ℕ → List ℕ → List Edit
spelled sources targets removes = map (edit_at sources targets removes) (numbers_below (length sources))

-- the batch of these edits, with its feed
abbrev pub spelled_entry : ℕ → List ℕ → List ℕ → List ℕ → Entry
spelled_entry feed sources targets removes = record { feed = feed; batch = spelled sources targets removes }
