use Rattle.std.proofs.Common.{◌≡◌, ℕ, ◌+◌, ◌*◌, ◌<◌, List, [], length, map, set, refl, ap, ap₂, ◌∙◌, rules, arith}
use Rattle.std.specs.Prelude.{slice_index, slice_index_or}
use Rattle.std.specs.Borrow.{Bor}
use Rattle.std.proofs.lemmas.List.{length-map}
use Rattle.bpf_blocks.specs.Rows.{row}
use Rattle.bpf_blocks.specs.declared.limits.TheConstants.{MOST_ENDS}
use Rattle.edge_fold.proofs.Gathered.{gathered_more, two_long}
use Rattle.edge_fold.proofs.ends.gather_ends.Goals as goal

pub columns-init : goal.columns-init
columns-init c =
    let room : length c.args.edges.now.ends ≡ MOST_ENDS = search rules in
    record { ends = λ k below. refl; long = λ k below. length-map c.args.edges.now.ends (λ (l : List ℕ). slice_index l k) ∙ room; count = refl; sources = refl; targets = refl; places = refl; degrees = refl }

pub columns-preserved : goal.columns-preserved
columns-preserved c =
    let columns = map (λ (column : Bor (List ℕ)). column.now) c.args.columns.now in
    let count : length columns ≡ length c.args.columns.now = length-map c.args.columns.now (λ (column : Bor (List ℕ)). column.now) in
    let at = c.columns.at in
    let e = c.columns.edges in
    let now = c.columns.invariant in
    let inside : at < length columns = omega (arith, c.columns-test.true, count) in
    let same = c.column_at-column.ensures in
    let first : (k : ℕ) → k < c.args.edges.now.count → row c.gather_end.new.ends k ≡ set (row e.ends k) (2 * at) (slice_index (slice_index_or columns at []) (slice_index c.args.edges.now.sources k)) =
    (λ k below. c.gather_end.ensures.gathered k (omega (arith, below, now.count))
    ∙ ap₂ (λ (xs : List ℕ) (v : ℕ). set (row e.ends k) (2 * at) (slice_index xs v)) same (ap (λ (l : List ℕ). slice_index l k) now.sources)) in
    let second : (k : ℕ) → k < c.args.edges.now.count → row c.gather_end-in-columns.new.ends k ≡ set (row c.gather_end.new.ends k) (2 * at + 1) (slice_index (slice_index_or columns at []) (slice_index c.args.edges.now.targets k)) =
    (λ k below. c.gather_end-in-columns.ensures.gathered k (omega (arith, below, now.count))
    ∙ ap₂ (λ (xs : List ℕ) (v : ℕ). set (row c.gather_end.new.ends k) (2 * at + 1) (slice_index xs v)) same (ap (λ (l : List ℕ). slice_index l k) now.targets)) in
    record {
      ends = λ k below.
          gathered_more columns at k (slice_index c.args.edges.now.sources k) (slice_index c.args.edges.now.targets k) e.ends c.gather_end.new.ends c.gather_end-in-columns.new.ends
          inside (omega (arith, inside, count, c.requires.columns, now.long k below)) (now.ends k below) (first k below) (second k below);
      long = λ k below.
          ap length (second k below ∙ ap (λ (r : List ℕ). set r (2 * at + 1) (slice_index (slice_index_or columns at []) (slice_index c.args.edges.now.targets k))) (first k below))
          ∙ two_long (row e.ends k) (2 * at) (2 * at + 1) (slice_index (slice_index_or columns at []) (slice_index c.args.edges.now.sources k)) (slice_index (slice_index_or columns at []) (slice_index c.args.edges.now.targets k))
          ∙ now.long k below;
      count = now.count;
      sources = now.sources;
      targets = now.targets;
      places = now.places;
      degrees = now.degrees;
    }
