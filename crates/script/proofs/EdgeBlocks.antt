-- A block of edges that is taken from the front of those that are left, and its lines.
use Rattle.std.proofs.Common.{◌≡◌, ℕ, zero, suc, ◌<◌, Bool, true, false, List, [], ◌∷◌, ◌++◌, length, take, drop, refl, sym, ap, ◌∙◌, append_assoc, take-append-drop, length-drop, arith}
use Rattle.std.specs.Prelude.{◌==◌, not}
use Rattle.std.specs.List.{flat_map}
use Rattle.std.proofs.lemmas.Bool.Decides.{nat_tests}
use Rattle.std.proofs.lemmas.Grind.{flat_map-append}
use Rattle.std.proofs.lemmas.List.{length-take}
use Rattle.map_model.specs.declared.listed_edge.ListedEdge.{ListedEdge}
use Rattle.script_model.specs.Texts.{edge_text}

abbrev lines_of : List ListedEdge → List ℕ
lines_of edges = flat_map edge_text edges

joined : (edges block left : List ListedEdge) (n : ℕ) → block ≡ take n edges → left ≡ drop n edges → block ++ left ≡ edges
joined edges block left n taken rest = rw (taken, rest) (take-append-drop n edges)

pub block_lines : (all edges block left : List ListedEdge) (n : ℕ) (old new : List ℕ) → edges ≡ all → block ≡ take n edges → left ≡ drop n edges → new ≡ old ++ lines_of block → new ++ lines_of left ≡ old ++ lines_of all
block_lines all edges block left n old new same taken rest is =
    ap (λ (t : List ℕ). t ++ lines_of left) is
    ∙ append_assoc old (lines_of block) (lines_of left)
    ∙ ap (λ (t : List ℕ). old ++ t) (sym (flat_map-append edge_text block left))
    ∙ ap (λ (es : List ListedEdge). old ++ lines_of es) (joined edges block left n taken rest ∙ same)

some_items : (n : ℕ) (none : Bool) → not none ≡ true → none ≡ (n == 0) → 0 < n
some_items zero none some is = absurd (let same : not none ≡ not true = ap not is in cc)
some_items (suc n) none some is = omega arith

-- a block with an edge leaves fewer
pub block_some : (all edges block left : List ListedEdge) (n : ℕ) (none : Bool) → edges ≡ all → block ≡ take n edges → left ≡ drop n edges → none ≡ (length block == 0) → not none ≡ true → length left < length all
block_some all edges block left n none same taken rest is some =
    let first : 0 < length block = some_items (length block) none some is in
    omega (arith, first, ap length same, ap length taken, ap length rest, length-take n edges, length-drop n edges)

no_items : (edges : List ListedEdge) → length edges ≡ 0 → edges ≡ []
no_items [] h = refl
no_items (e ∷ edges) h = absurd (omega (arith, h))

none_left : (n : ℕ) (none : Bool) → not none ≡ false → none ≡ (n == 0) → n ≡ 0
none_left zero none ended is = refl
none_left (suc n) none ended is = grind (arith, nat_tests)

-- an empty block is the end
pub block_none : (all edges block : List ListedEdge) (n : ℕ) (none : Bool) → 0 < n → edges ≡ all → block ≡ take n edges → none ≡ (length block == 0) → not none ≡ false → all ≡ []
block_none all edges block n none room same taken is ended =
    let nothing : length block ≡ 0 = none_left (length block) none ended is in
    no_items all (omega (arith, nothing, room, ap length same, ap length taken, length-take n edges))
