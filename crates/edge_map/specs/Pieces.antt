-- A map in pieces, and what workers that claim them have done.
use Rattle.std.specs.Prelude.{◌≡◌, ℕ, ◌+◌, ◌*◌, ◌/◌, ◌<◌, ◌≤◌, List, length, map, take, drop, All, Option, Some, None, slice_index_or}
use Rattle.bpf_image.specs.Program.{Program}
use Rattle.map_model.specs.declared.reduction.Reduction.{Reduction}
use Rattle.past_model.specs.declared.limits.TheConstants.{MOST_VERTICES}
use Rattle.graph_model.specs.Graph.{Graph}
use Rattle.atomic_table.specs.Seated.{TableId}
use Rattle.claims.specs.Claims.{Claiming, times}
use Rattle.edge_fold.specs.declared.outcome.MapOutcome.{MapOutcome}
use Rattle.edge_fold.specs.declared.rows.Rows.{Rows}
use Rattle.edge_map.specs.declared.limits.TheConstants.{PIECE_VERTICES}
use Rattle.edge_map.specs.declared.piece.Piece.{Piece}
use Rattle.edge_map.specs.Maps.{IsMap}

-- a map, and the counter of which its pieces are claimed
pub record Task : Type 0 where
  pub program : Program
  pub graph : Graph
  pub argument : List ℕ
  pub frontier : List ℕ
  pub reduction : Reduction
  pub rows : Rows
  pub counter : TableId

abbrev pub task : Program → Graph → List ℕ → List ℕ → Reduction → Rows → TableId → Task
task p g argument frontier r rows counter =
    record { program = p; graph = g; argument = argument; frontier = frontier; reduction = r; rows = rows; counter = counter }

-- how many pieces a frontier has
abbrev pub piece_count : List ℕ → ℕ
piece_count frontier = (length frontier + 63) / PIECE_VERTICES

-- the vertices of a piece
abbrev pub piece_of : List ℕ → ℕ → List ℕ
piece_of frontier number = take PIECE_VERTICES (drop (PIECE_VERTICES * number) frontier)

-- the map of a piece
pub record IsPart (t : Task) (number : ℕ) (out : MapOutcome) : Type 0 where
  pub right : IsMap t.rows t.program t.graph t.reduction t.argument (piece_of t.frontier number) out
  pub most : out.edges ≤ PIECE_VERTICES * MOST_VERTICES

abbrev pub IsPiece : Task → Piece → Type 0
IsPiece t piece = (piece.number < piece_count t.frontier) × IsPart t piece.number piece.outcome

abbrev pub numbers_of : List Piece → List ℕ
numbers_of pieces = map (λ piece. piece.number) pieces

-- what some workers did: each piece that they claimed, and some number after all pieces was claimed too, so that
-- all pieces were claimed by someone
pub record IsWork (t : Task) (parts : ℕ) (c : Claiming) (pieces : List Piece) : Type 0 where
  pub of : c.counter ≡ t.counter
  pub has : c.parts ≡ parts
  pub covers : (x : ℕ) → x < piece_count t.frontier → times x c.claimed ≡ times x (numbers_of pieces)
  pub last : ℕ
  pub behind : piece_count t.frontier ≤ last
  pub claimed : 0 < times last c.claimed
  pub right : All (IsPiece t) pieces

-- all pieces were done
pub record IsWorkDone (t : Task) (pieces : List Piece) : Type 0 where
  pub each : (x : ℕ) → x < piece_count t.frontier → 0 < times x (numbers_of pieces)
  pub right : All (IsPiece t) pieces

abbrev pub IsPlace : Task → ℕ → Option MapOutcome → Type 0
IsPlace t number None = ⊥
IsPlace t number (Some out) = IsPart t number out

-- what each piece gave stands at its number
pub record ArePlaced (t : Task) (places : List (Option MapOutcome)) : Type 0 where
  pub count : length places ≡ piece_count t.frontier
  pub each : (k : ℕ) → k < piece_count t.frontier → IsPlace t k (slice_index_or places k None)
