use Rattle.std.proofs.Common.{◌≡◌, ℕ, ◌+◌, ◌-◌, ◌*◌, ◌<◌, ◌≤◌, List, [], ◌++◌, length, take, drop, map, sym, ap, ap₂, ◌∙◌, append-nil, arith}
use Rattle.std.specs.Prelude.{slice_index, slice_index_or}
use Rattle.std.specs.Borrow.{Bor}
use Rattle.std.proofs.lemmas.List.{drop_all, length-map, length-take, length-take-le}
use Rattle.edge_fold.specs.Inputs.{end_bytes}
use Rattle.edge_fold.proofs.EndBytes.{both, ends_long, end_bytes_more}
use Rattle.edge_fold.proofs.Filled.{filled}
use Rattle.edge_fold.proofs.ends.write_ends.Goals as goal

pub columns-preserved : goal.columns-preserved
columns-preserved c =
    let columns = map (λ (column : Bor (List ℕ)). column.now) c.args.columns.now in
    let count : length columns ≡ length c.args.columns.now = length-map c.args.columns.now (λ (column : Bor (List ℕ)). column.now) in
    let at = c.columns.at in
    let s = c.args.edge.source in
    let t = c.args.edge.target in
    let old = c.args.bytes.now in
    let inside : at < length columns = omega (arith, c.columns-test.true, count) in
    let column = slice_index_or columns at [] in
    let late = both (slice_index column s) (slice_index column t) in
    let early = end_bytes (take at columns) s t in
    let k = 16 * at + 16 - 16 * at in
    let size : k ≡ 16 = omega arith in
    let numbers = c.columns.bytes in
    let written : c.write_numbers.new.bytes ≡ late =
    c.write_numbers.ensures
    ∙ ap₂ both (c.number_at.ensures ∙ ap (λ xs. slice_index xs s) c.column_at-column.ensures) (c.number_at-in-columns.ensures ∙ ap (λ xs. slice_index xs t) c.column_at-column.ensures) in
    let begun : length early ≡ 16 * at = ends_long (take at columns) s t ∙ ap (λ n. 16 * n) (length-take-le at columns (omega (arith, inside))) in
    let fits : 16 * at + k ≤ length old = omega (arith, size, inside, count, c.requires) in
    let none : drop 16 (take k (drop (16 * at) numbers)) ≡ [] =
    ap (λ n. drop 16 (take n (drop (16 * at) numbers))) size ∙ drop_all 16 (take 16 (drop (16 * at) numbers)) (omega (arith, length-take 16 (drop (16 * at) numbers))) in
    filled old numbers c.write_numbers.new.bytes early late (16 * at) 16 k c.columns.invariant begun fits (omega (arith, size))
    (written ∙ sym (append-nil late) ∙ ap (λ l. late ++ l) (sym none))
    ∙ ap₂ (λ (a : List ℕ) (n : ℕ). a ++ drop n old) (sym (end_bytes_more columns s t at inside)) (omega arith)
