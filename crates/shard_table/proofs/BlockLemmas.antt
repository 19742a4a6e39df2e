-- Where a part stands in the blocks of a table.
use Rattle.std.proofs.Common.{◌≡◌, ℕ, zero, suc, ◌+◌, ◌*◌, ◌/◌, ◌%◌, ◌<◌, ◌≤◌, List, [], ◌∷◌, ◌++◌, length, map, get_or, take, refl, sym, ap, subst, ◌∙◌, length-append, arith}
use Rattle.std.specs.declared.sync.Arc.{Arc}
use Rattle.std.specs.declared.alloc.Global.{Global}
use Rattle.std.specs.Arc.{arc_value}
use Rattle.std.specs.List.{flat_map}
use Rattle.std.proofs.lemmas.List.{length-map, map_push, take-map, get_or-map, flat_map_more}
use Rattle.std.proofs.lemmas.List.Concat.{get_or-flat_map, flat_map-cons}
use Rattle.std.proofs.lemmas.List.Folds.{length-flat_map-take}
use Rattle.std.proofs.Math.Seq.{take-suc}
use Rattle.std.proofs.Math.Nat.{div-add-mod}
use Rattle.graph_model.specs.Graph.{Graph}
use Rattle.shards.specs.Part.{Part}
use Rattle.shards.specs.Pages.{AreFull}
use Rattle.shards.proofs.SizeLemmas.{total, starts, past_pieces, past_piece}
use Rattle.shard_table.specs.Table.{IsTable, IsPartAt, part_at}
use Rattle.shard_table.specs.Blocks.{ArePartsFrom, parts_in, sizes_of}

abbrev Blocks : Type 0
Blocks = List (Arc (List Part) Global)

-- how many parts blocks have
pub length-parts_in : (blocks : Blocks) → length (parts_in blocks) ≡ total (sizes_of blocks)
length-parts_in [] = refl
length-parts_in (block ∷ blocks) = ap length (flat_map-cons arc_value block blocks) ∙ length-append (arc_value block) (parts_in blocks) ∙ ap (λ n. length (arc_value block) + n) (length-parts_in blocks)

start_of : (w : ℕ) (blocks : Blocks) (i : ℕ) → AreFull w (sizes_of blocks) → i < length blocks → length (parts_in (take i blocks)) ≡ w * i
start_of w blocks i all h =
    length-parts_in (take i blocks)
    ∙ ap total (sym (take-map (λ block. length (arc_value block)) i blocks))
    ∙ starts w (sizes_of blocks) i all (omega (arith, length-map blocks (λ block. length (arc_value block))))

-- a part of a block, among all
pub part_in_block : (w : ℕ) (blocks : Blocks) (i k : ℕ) (d : Arc (List Part) Global) → AreFull w (sizes_of blocks) → i < length blocks → k < length (arc_value (get_or blocks i d)) → part_at (parts_in blocks) (w * i + k) ≡ part_at (arc_value (get_or blocks i d)) k
part_in_block w blocks i k d all h within =
    ap (λ n. part_at (parts_in blocks) (n + k)) (sym (start_of w blocks i all h)) ∙ get_or-flat_map arc_value blocks i k d (record { range = 0; rows = []; homes = [] }) h within

pub part_inside : (w : ℕ) (blocks : Blocks) (i k : ℕ) (d : Arc (List Part) Global) → AreFull w (sizes_of blocks) → i < length blocks → k < length (arc_value (get_or blocks i d)) → w * i + k < length (parts_in blocks)
part_inside w blocks i k d all h within =
    omega (arith, start_of w blocks i all h, length-flat_map-take arc_value blocks i d h)

size_at : (blocks : Blocks) (i : ℕ) (d : Arc (List Part) Global) → i < length blocks → get_or (sizes_of blocks) i 0 ≡ length (arc_value (get_or blocks i d))
size_at blocks i d h = get_or-map (λ block. length (arc_value block)) blocks i d 0 h

-- a place past the last block, or past the last part of a block, is past all parts
pub past_all : (w : ℕ) (blocks : Blocks) (r : ℕ) → AreFull w (sizes_of blocks) → length blocks ≤ r / w → length (parts_in blocks) ≤ r
past_all w blocks r all past =
    let many = past_pieces w (sizes_of blocks) (r / w) all (omega (arith, length-map blocks (λ block. length (arc_value block)))) in
    omega (arith, length-parts_in blocks, many, div-add-mod r w)

pub past_last : (w : ℕ) (blocks : Blocks) (r : ℕ) (d : Arc (List Part) Global) → 0 < w → AreFull w (sizes_of blocks) → r / w < length blocks → length (arc_value (get_or blocks (r / w) d)) ≤ r % w → length (parts_in blocks) ≤ r
past_last w blocks r d some all h past =
    let many = past_piece w (sizes_of blocks) (r / w) (r % w) all (omega (arith, h, length-map blocks (λ block. length (arc_value block)))) (omega (arith, past, size_at blocks (r / w) d h)) (omega arith) in
    omega (arith, length-parts_in blocks, many, div-add-mod r w)

-- ---- a block more

pub blocks_push : (blocks : Blocks) (block : Arc (List Part) Global) → parts_in (blocks ++ block ∷ []) ≡ parts_in blocks ++ arc_value block
blocks_push blocks block = sym (flat_map_more arc_value [] blocks block)

pub sizes_push : (blocks : Blocks) (block : Arc (List Part) Global) → sizes_of (blocks ++ block ∷ []) ≡ sizes_of blocks ++ length (arc_value block) ∷ []
sizes_push blocks block = map_push (λ block. length (arc_value block)) blocks block

-- one size more is that of the next of other blocks
pub sizes_next : (new old : Blocks) (i : ℕ) (block d : Arc (List Part) Global) → i < length old → sizes_of new ≡ take i (sizes_of old) → length (arc_value block) ≡ length (arc_value (get_or old i d)) → sizes_of (new ++ block ∷ []) ≡ take (i + 1) (sizes_of old)
sizes_next new old i block d h so_far same =
    let next : suc i ≡ i + 1 = omega arith in
    sizes_push new block
    ∙ ap (λ l. l ++ length (arc_value block) ∷ []) so_far
    ∙ ap (λ n. take i (sizes_of old) ++ n ∷ []) (same ∙ sym (size_at old i d h))
    ∙ sym (take-suc (sizes_of old) i 0 (omega (arith, length-map old (λ block. length (arc_value block)))))
    ∙ ap (λ k. take k (sizes_of old)) next

-- where blocks are made as far as the i-th, so many parts are made
pub parts_made : (w : ℕ) (new old : Blocks) (i : ℕ) → AreFull w (sizes_of old) → i < length old → sizes_of new ≡ take i (sizes_of old) → 0 + length (parts_in new) ≡ w * i
parts_made w new old i all h so_far =
    omega (arith, length-parts_in new, ap total so_far, starts w (sizes_of old) i all (omega (arith, length-map old (λ block. length (arc_value block)))))

-- and where all are made, as many as there were
pub all_made : (new old : Blocks) (i : ℕ) → length old ≤ i → sizes_of new ≡ take i (sizes_of old) → sizes_of new ≡ sizes_of old
all_made new old i past so_far = so_far ∙ take_all (sizes_of old) i (omega (arith, length-map old (λ block. length (arc_value block))))
  where
    take_all : (l : List ℕ) (k : ℕ) → length l ≤ k → take k l ≡ l
    take_all [] zero h = refl
    take_all [] (suc k) h = refl
    take_all (x ∷ xs) zero h = absurd (omega arith)
    take_all (x ∷ xs) (suc k) h = ap (λ t. x ∷ t) (take_all xs k (omega arith))

pub same_length : (new old : Blocks) → sizes_of new ≡ sizes_of old → length (parts_in new) ≡ length (parts_in old)
same_length new old same = length-parts_in new ∙ ap total same ∙ sym (length-parts_in old)

-- the parts of a block of a table are those of ranges from one on
pub block_parts : (w : ℕ) (g : Graph) (blocks : Blocks) (i : ℕ) (d : Arc (List Part) Global) → AreFull w (sizes_of blocks) → i < length blocks → IsTable g (parts_in blocks) → ArePartsFrom g (w * i) (arc_value (get_or blocks i d))
block_parts w g blocks i d all h table = record {
  inside = λ k within. (table.ranges (w * i + k)).0 (part_inside w blocks i k d all h within);
  each = λ k within. subst (IsPartAt g (w * i + k)) (part_in_block w blocks i k d all h within) (table.each (w * i + k) (part_inside w blocks i k d all h within));
}

-- a block's parts are among all
pub block_inside : (w : ℕ) (blocks : Blocks) (i : ℕ) (d : Arc (List Part) Global) → AreFull w (sizes_of blocks) → i < length blocks → w * i + length (arc_value (get_or blocks i d)) ≤ length (parts_in blocks)
block_inside w blocks i d all h = omega (arith, start_of w blocks i all h, length-flat_map-take arc_value blocks i d h)

-- other owners of the same blocks show the same parts
flat_map_values : (xs ys : Blocks) → map arc_value xs ≡ map arc_value ys → flat_map arc_value xs ≡ flat_map arc_value ys
flat_map_values xs ys same = sym (flat_map_map xs) ∙ ap (flat_map (λ (l : List Part). l)) same ∙ flat_map_map ys
  where
    flat_map_map : (zs : Blocks) → flat_map (λ (l : List Part). l) (map arc_value zs) ≡ flat_map arc_value zs
    flat_map_map [] = refl
    flat_map_map (z ∷ zs) = ap (λ l. arc_value z ++ l) (flat_map_map zs)

pub same_parts : (xs ys : Blocks) → map arc_value xs ≡ map arc_value ys → parts_in xs ≡ parts_in ys
same_parts xs ys same = flat_map_values xs ys same

pub same_sizes : (xs ys : Blocks) → map arc_value xs ≡ map arc_value ys → sizes_of xs ≡ sizes_of ys
same_sizes xs ys same = sym (lengths xs) ∙ ap (map length) same ∙ lengths ys
  where
    lengths : (zs : Blocks) → map length (map arc_value zs) ≡ sizes_of zs
    lengths [] = refl
    lengths (z ∷ zs) = ap (λ l. length (arc_value z) ∷ l) (lengths zs)
