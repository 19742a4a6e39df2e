-- The numbers that columns have for the ends of edges, in records and in blocks.
use Rattle.std.proofs.Common.{◌≡◌, ℕ, zero, suc, ◌+◌, ◌*◌, ◌<◌, List, [], ◌∷◌, ◌++◌, length, take, refl, sym, ap, subst, ◌∙◌, append_assoc, append-nil, length-append, arith}
use Rattle.std.specs.Prelude.{slice_index, slice_index_or}
use Rattle.std.specs.List.{flat_map}
use Rattle.std.specs.Int.{w32, w64, to_le_bytes, byte_at, bytes_low_first}
use Rattle.std.proofs.lemmas.List.{take_more, take_at}
use Rattle.std.proofs.lemmas.Grind.{flat_map-append}
use Rattle.map_model.specs.EdgeMap.{Inputs, record_of, with_ends}
use Rattle.verifier.proofs.Stored.{byte_below}
use Rattle.map_model.specs.declared.limits.TheConstants.{EDGE_BYTES}
use Rattle.edge_fold.specs.declared.edge.Edge.{Edge}
use Rattle.edge_fold.specs.Inputs.{ends_of, end_bytes, edge_bytes}
use Rattle.edge_fold.specs.Numbers.{record_bytes}

-- two numbers as bytes
abbrev pub both : ℕ → ℕ → List ℕ
both a b = to_le_bytes w64 a ++ to_le_bytes w64 b

-- a record's ends stand after what is there before them
pub ends_after : (columns : List (List ℕ)) (bytes : List ℕ) (source target : ℕ)
    → with_ends columns bytes source target ≡ bytes ++ end_bytes columns source target
ends_after [] bytes source target = sym (append-nil bytes)
ends_after (column ∷ columns) bytes source target =
    let one = both (slice_index column source) (slice_index column target) in
    ends_after columns (bytes ++ one) source target ∙ append_assoc bytes one (end_bytes columns source target)

pub ends_long : (columns : List (List ℕ)) (source target : ℕ) → length (end_bytes columns source target) ≡ 16 * length columns
ends_long [] source target = refl
ends_long (column ∷ columns) source target =
    let rest : length (end_bytes columns source target) ≡ 16 * length columns = ends_long columns source target in omega (arith, rest)

-- each element is a byte
abbrev pub AreBytes : List ℕ → Type 0
AreBytes bytes = (i : ℕ) → slice_index bytes i < 256

byte_more : (b : ℕ) (bytes : List ℕ) → b < 256 → AreBytes bytes → AreBytes (b ∷ bytes)
byte_more b bytes small rest zero = small
byte_more b bytes small rest (suc i) = rest i

-- so many bytes of a number, and more
low_more : (from count n : ℕ) (bytes : List ℕ) → AreBytes bytes → AreBytes (bytes_low_first from count n ++ bytes)
low_more from zero n bytes rest = rest
low_more from (suc count) n bytes rest =
    byte_more (byte_at from n) (bytes_low_first (suc from) count n ++ bytes) (byte_below from n) (low_more (suc from) count n bytes rest)

pub word_more : (n : ℕ) (bytes : List ℕ) → AreBytes bytes → AreBytes (to_le_bytes w32 n ++ bytes)
word_more n bytes rest = low_more 0 4 n bytes rest

pub double_more : (n : ℕ) (bytes : List ℕ) → AreBytes bytes → AreBytes (to_le_bytes w64 n ++ bytes)
double_more n bytes rest = low_more 0 8 n bytes rest

-- a record's ends are bytes
end_bytes_are : (columns : List (List ℕ)) (source target : ℕ) → AreBytes (end_bytes columns source target)
end_bytes_are [] source target = λ i. omega arith
end_bytes_are (column ∷ columns) source target =
    let rest = end_bytes columns source target in
    double_more (slice_index column source) (to_le_bytes w64 (slice_index column target) ++ rest)
    (double_more (slice_index column target) rest (end_bytes_are columns source target))

joined_bytes : (xs ys : List ℕ) → AreBytes xs → AreBytes ys → AreBytes (xs ++ ys)
joined_bytes [] ys left right = right
joined_bytes (x ∷ xs) ys left right = byte_more x (xs ++ ys) (left 0) (joined_bytes xs ys (λ i. left (suc i)) right)

pub input_bytes_are : (columns : List (List ℕ)) (bytes : List ℕ) (source target : ℕ) → AreBytes bytes → AreBytes (with_ends columns bytes source target)
input_bytes_are columns bytes source target are =
    subst AreBytes (sym (ends_after columns bytes source target)) (joined_bytes bytes (end_bytes columns source target) are (end_bytes_are columns source target))

pub input_long : (columns : List (List ℕ)) (bytes : List ℕ) (source target : ℕ) → length (with_ends columns bytes source target) ≡ length bytes + 16 * length columns
input_long columns bytes source target =
    ap length (ends_after columns bytes source target) ∙ length-append bytes (end_bytes columns source target) ∙ ap (λ n. length bytes + n) (ends_long columns source target)

-- one column more
pub ends_more : (columns : List (List ℕ)) (source target at : ℕ) → at < length columns
    → ends_of (take (at + 1) columns) source target
    ≡ ends_of (take at columns) source target ++ (slice_index (slice_index_or columns at []) source ∷ slice_index (slice_index_or columns at []) target ∷ [])
ends_more columns source target at inside =
    let column = slice_index_or columns at [] in
    let two : List ℕ → List ℕ = (λ c. slice_index c source ∷ slice_index c target ∷ []) in
    ap (flat_map two) (take_more columns at [] inside) ∙ flat_map-append two (take at columns) (column ∷ [])

pub end_bytes_more : (columns : List (List ℕ)) (source target at : ℕ) → at < length columns
    → end_bytes (take (at + 1) columns) source target
    ≡ end_bytes (take at columns) source target ++ both (slice_index (slice_index_or columns at []) source) (slice_index (slice_index_or columns at []) target)
end_bytes_more columns source target at inside =
    let column = slice_index_or columns at [] in
    let two = slice_index column source ∷ slice_index column target ∷ [] in
    ap (flat_map (to_le_bytes w64)) (ends_more columns source target at inside)
    ∙ flat_map-append (to_le_bytes w64) (ends_of (take at columns) source target) two

-- a record's ends stand after its argument
pub record_split : (e : Edge) (inputs : Inputs) → edge_bytes e inputs ≡ record_bytes e inputs.argument ++ end_bytes inputs.columns e.source e.target
record_split e inputs = ap (λ (own : List ℕ). record_of e.source e.target e.place e.degree own) (ends_after inputs.columns inputs.argument e.source e.target)

front_long : (e : Edge) (argument : List ℕ) → length (record_bytes e argument) ≡ length argument + EDGE_BYTES
front_long e argument = omega arith

pub front_of_record : (e : Edge) (inputs : Inputs) → take (length inputs.argument + EDGE_BYTES) (edge_bytes e inputs) ≡ record_bytes e inputs.argument
front_of_record e inputs =
    ap (take (length inputs.argument + EDGE_BYTES)) (record_split e inputs)
    ∙ take_at (record_bytes e inputs.argument) (end_bytes inputs.columns e.source e.target) (length inputs.argument + EDGE_BYTES) (front_long e inputs.argument)
