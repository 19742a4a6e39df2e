-- A part of a graph under edit, one vertex after another.
use Rattle.std.proofs.Common.{◌≡◌, ◌==◌, ℕ, zero, suc, ◌+◌, ◌-◌, ◌*◌, ◌%◌, ◌^◌, ◌<◌, ◌≤◌, Bool, true, false, not, ◌&&◌, cond, if◌then◌else◌, unwrap_or, Some, None, List, [], ◌∷◌, ◌++◌, length, filter, replicate, refl, sym, ap, ap₂, subst, subst₂, ◌∙◌, inl, inr, le_trans, mul-le-mul, add-zero, eqb-true, eq-eqb, arith}
use Rattle.std.proofs.lemmas.Bool.{cases_lt, cases_Bool, and_parts, false_from_ne_true}
use Rattle.std.proofs.lemmas.List.{length_push, get_or_append_left, get_or_push, get_or-replicate, length-replicate}
use Rattle.std.proofs.lemmas.List.Elements.{filter_agree}
use Rattle.past_model.specs.declared.limits.TheConstants.{MOST_VERTICES, MOST_RANGES}
use Rattle.past_model.specs.declared.edit.Edit.{Edit}
use Rattle.graph_model.specs.Graph.{Graph, neighbours, numbers_below, count_pairs, empty_graph}
use Rattle.past_model.specs.Edits.{source_of, target_of, inserts, names, decided_first, last_word, after_batch, added, removed, AreEditsBelow}
use Rattle.graph_model.proofs.Neighbours.{length-filter_below, length-neighbours, neighbours-within, neighbours-empty_graph}
use Rattle.graph_model.proofs.Pairs.{count_pairs-le, count_pairs-suc, count_pairs-zero}
use Rattle.shards.specs.declared.counts.Counts.{Counts}
use Rattle.shards.specs.declared.groups.Grouping.{Grouping}
use Rattle.shards.specs.declared.groups.Grouping.TheVariants.{ByVertex}
use Rattle.shards.specs.Groups.{group_of, edits_of}
use Rattle.past_model.specs.declared.home.Home.{Home}
use Rattle.past_model.specs.declared.home.Home.TheVariants.{Block}
use Rattle.past_model.specs.Homes.{IsHomeOf}
use Rattle.shards.specs.Part.{Part, vertex_at, row_at, IsPart, IsEditOf, AreEditsOf, IsPartAfter, AreCounts, AreHomes, IsShard}
use Rattle.shards.specs.Merge.{decision, AreEditsFrom, IsMerged}
use Rattle.shards.specs.Begun.{is_new, is_gone}
use Rattle.shards.specs.Begun.{IsDone}
use Rattle.shards.proofs.WordLemmas.{last_word-filter}

-- the edits of the i-th vertex
abbrev pub own_edits : Part → List Edit → ℕ → List Edit
own_edits p es i = edits_of record { grouping = ByVertex; count = length p.rows; edits = es } i

-- and in that of its source alone
own_source : (p : Part) (e : Edit) (i : ℕ) → length p.rows ≤ 256 → IsEditOf p e → source_of e % 256 ≡ i → source_of e ≡ vertex_at p i
own_source p e i few own is = let low = own.0 in let high = own.1 in omega arith

pub own_edits_from : (n : ℕ) (p : Part) (es : List Edit) (i : ℕ) → length p.rows ≤ 256 → AreEditsOf p es → AreEditsBelow n es → AreEditsFrom (vertex_at p i) n (own_edits p es i)
own_edits_from n p [] i few own below = tt
own_edits_from n p (e ∷ es) i few own below =
    elim (cases_Bool (source_of e % 256 == i)) [
      | inl t ↦ subst (λ b. AreEditsFrom (vertex_at p i) n (cond b (e ∷ own_edits p es i) (own_edits p es i))) (sym t) ((own_source p e i few own.0 (eqb-true (source_of e % 256) i t), below.0.1), own_edits_from n p es i few own.1 below.1)
      | inr f ↦ subst (λ b. AreEditsFrom (vertex_at p i) n (cond b (e ∷ own_edits p es i) (own_edits p es i))) (sym f) (own_edits_from n p es i few own.1 below.1)
    ]

named_source : (e : Edit) (u v : ℕ) → names e u v ≡ true → source_of e ≡ u
named_source e u v t = eqb-true (source_of e) u (and_parts (source_of e == u) (target_of e == v) t).0

-- the edits of a group are all that decide the pairs of its vertices
named_own : (k : Grouping) (count : ℕ) (es : List Edit) (i u v : ℕ) → group_of k u ≡ i → filter (λ e. names e u v) (edits_of record { grouping = k; count = count; edits = es } i) ≡ filter (λ e. names e u v) es
named_own k count [] i u v is = refl
named_own k count (e ∷ es) i u v is =
    let rest = edits_of record { grouping = k; count = count; edits = es } i in
    elim (cases_Bool (names e u v)) [
      | inl t ↦ (
          let mine : (group_of k (source_of e) == i) ≡ true = eq-eqb (group_of k (source_of e)) i (ap (group_of k) (named_source e u v t) ∙ is) in
          ap (λ b. filter (λ f. names f u v) (cond b (e ∷ rest) rest)) mine
          ∙ ap (λ l. cond (names e u v) (e ∷ l) l) (named_own k count es i u v is))
      | inr f ↦
          skip (group_of k (source_of e) == i) rest f
          ∙ named_own k count es i u v is
          ∙ sym (ap (λ b. cond b (e ∷ filter (λ g. names g u v) es) (filter (λ g. names g u v) es)) f)
    ]
  where
    skip : (b : Bool) (rest : List Edit) → names e u v ≡ false → filter (λ f. names f u v) (cond b (e ∷ rest) rest) ≡ filter (λ f. names f u v) rest
    skip true rest f = ap (λ b. cond b (e ∷ filter (λ g. names g u v) rest) (filter (λ g. names g u v) rest)) f
    skip false rest f = refl

pub group_word : (k : Grouping) (count : ℕ) (es : List Edit) (i u v : ℕ) → group_of k u ≡ i → last_word (edits_of record { grouping = k; count = count; edits = es } i) u v ≡ last_word es u v
group_word k count es i u v is =
    sym (last_word-filter (edits_of record { grouping = k; count = count; edits = es } i) u v)
    ∙ ap (λ l. last_word l u v) (named_own k count es i u v is)
    ∙ last_word-filter es u v

own_word : (p : Part) (es : List Edit) (i v : ℕ) → i < 256 → last_word (own_edits p es i) (vertex_at p i) v ≡ last_word es (vertex_at p i) v
own_word p es i v small = group_word ByVertex (length p.rows) es i (vertex_at p i) v (omega arith)

-- where no edit is of a vertex, nothing of it is new or gone
no_word : (p : Part) (es : List Edit) (u v : ℕ) → AreEditsOf p es → (vertex_at p 0 ≤ u → u < vertex_at p (length p.rows) → ⊥) → last_word es u v ≡ None
no_word p [] u v own outside = refl
no_word p (e ∷ es) u v own outside =
    let unnamed : names e u v ≡ false = false_from_ne_true (names e u v) (λ t.
    let source = named_source e u v t in
    let low = own.0.0 in
    let high = own.0.1 in
    outside (omega arith) (omega arith)) in
    ap (λ o. decided_first o e u v) (no_word p es u v own.1 outside) ∙ ap (λ b. if b then Some (inserts e) else None) unnamed

pub never_new : (b : Bool) → (b && not b) ≡ false
never_new true = refl
never_new false = refl

outside_new : (p : Part) (es : List Edit) (g : Graph) (u v : ℕ) → AreEditsOf p es → (vertex_at p 0 ≤ u → u < vertex_at p (length p.rows) → ⊥) → is_new es g u v ≡ false
outside_new p es g u v own outside = ap (λ o. unwrap_or o (g.has_edge u v) && not (g.has_edge u v)) (no_word p es u v own outside) ∙ never_new (g.has_edge u v)

outside_gone : (p : Part) (es : List Edit) (g : Graph) (u v : ℕ) → AreEditsOf p es → (vertex_at p 0 ≤ u → u < vertex_at p (length p.rows) → ⊥) → is_gone es g u v ≡ false
outside_gone p es g u v own outside = ap (λ o. g.has_edge u v && not (unwrap_or o (g.has_edge u v))) (no_word p es u v own outside) ∙ never_new (g.has_edge u v)

pub filter_none : (f : ℕ → Bool) (xs : List ℕ) → ((x : ℕ) → f x ≡ false) → length (filter f xs) ≡ 0
filter_none f [] never = refl
filter_none f (x ∷ xs) never = ap (λ b. length (cond b (x ∷ filter f xs) (filter f xs))) (never x) ∙ filter_none f xs never

-- pairs of rows without one count nothing
pub count_none : (m n : ℕ) (f : ℕ → ℕ → Bool) → ((w x : ℕ) → w < m → f w x ≡ false) → count_pairs m n f ≡ 0
count_none zero n f never = count_pairs-zero n f
count_none (suc m) n f never = omega (arith, count_pairs-suc m n f, count_none m n f (λ w x h. never w x (omega arith)), filter_none (f m) (numbers_below n) (λ x. never m x (omega arith)))

pub count_past : (k m n : ℕ) (f : ℕ → ℕ → Bool) → ((w x : ℕ) → m ≤ w → w < k + m → f w x ≡ false) → count_pairs (k + m) n f ≡ count_pairs m n f
count_past zero m n f never = ap (λ k. count_pairs k n f) (omega arith)
count_past (suc k) m n f never =
    let shift : suc k + m ≡ suc (k + m) = omega arith in
    omega (arith, ap (λ j. count_pairs j n f) shift, count_pairs-suc (k + m) n f, count_past k m n f (λ w x low high. never w x low (omega arith)), filter_none (f (k + m)) (numbers_below n) (λ x. never (k + m) x (omega arith) (omega arith)))

-- ---- the lists of the first vertices are made, and their edits counted

pub nothing_done : (es : List Edit) (p : Part) (g : Graph) → AreEditsOf p es → IsDone es p g [] record { added = 0; removed = 0 }
nothing_done es p g own = record {
  each = λ i h. absurd (omega arith);
  gained = sym (count_none (vertex_at p 0) g.vertex_count (is_new es g) (λ w x h. outside_new p es g w x own (λ low high. omega arith)));
  lost = sym (count_none (vertex_at p 0) g.vertex_count (is_gone es g) (λ w x h. outside_gone p es g w x own (λ low high. omega arith)));
}

-- one vertex more
pub one_done : (es : List Edit) (p : Part) (g : Graph) (rows : List (List ℕ)) (row : List ℕ) (counts more : Counts) → length rows < length p.rows → length p.rows ≤ 256 → IsPart g p → IsDone es p g rows counts
    → IsMerged (own_edits p es (length rows)) (vertex_at p (length rows)) g.vertex_count (g.has_edge (vertex_at p (length rows))) row more
    → IsDone es p g (rows ++ row ∷ []) record { added = counts.added + more.added; removed = counts.removed + more.removed }
one_done es p g rows row counts more inside few part done merged =
    let i = length rows in
    let u = vertex_at p i in
    let n = g.vertex_count in
    let within = part.within in
    let low : u < n = omega arith in
    let agree : (v : ℕ) → decision (own_edits p es i) u (g.has_edge u) v ≡ (after_batch es g).has_edge u v = λ v. ap (λ o. unwrap_or o (g.has_edge u v)) (own_word p es i v (omega arith)) in
    let long : length (rows ++ row ∷ []) ≡ i + 1 = length_push rows row in
    let next : vertex_at p (length (rows ++ row ∷ [])) ≡ suc u = omega (arith, long) in
    let new_row : length (filter (λ v. decision (own_edits p es i) u (g.has_edge u) v && not (g.has_edge u v)) (numbers_below n)) ≡ length (filter (is_new es g u) (numbers_below n)) = ap length (filter_agree (λ v. decision (own_edits p es i) u (g.has_edge u) v && not (g.has_edge u v)) (is_new es g u) (λ v. ap (λ b. b && not (g.has_edge u v)) (agree v)) (numbers_below n)) in
    let gone_row : length (filter (λ v. g.has_edge u v && not (decision (own_edits p es i) u (g.has_edge u) v)) (numbers_below n)) ≡ length (filter (is_gone es g u) (numbers_below n)) = ap length (filter_agree (λ v. g.has_edge u v && not (decision (own_edits p es i) u (g.has_edge u) v)) (is_gone es g u) (λ v. ap (λ b. g.has_edge u v && not b) (agree v)) (numbers_below n)) in
    let gained = done.gained in
    let lost = done.lost in
    let more_gained = merged.gained in
    let more_lost = merged.lost in
    record {
      each = λ k h. elim (cases_lt k i) [
        | inl lt ↦ get_or_append_left rows (row ∷ []) [] k lt ∙ done.each k lt
        | inr ge ↦
            (let same : i ≡ k = omega (arith, long) in
            get_or_push rows row [] k same
            ∙ merged.list
            ∙ filter_agree (decision (own_edits p es i) u (g.has_edge u)) ((after_batch es g).has_edge u) agree (numbers_below n)
            ∙ sym (neighbours-within (after_batch es g) u low)
            ∙ ap (λ j. neighbours (after_batch es g) (vertex_at p j)) same)
      ];
      gained = omega (arith, gained, more_gained, new_row, count_pairs-suc u n (is_new es g), ap (λ m. count_pairs m n (is_new es g)) next);
      lost = omega (arith, lost, more_lost, gone_row, count_pairs-suc u n (is_gone es g), ap (λ m. count_pairs m n (is_gone es g)) next);
    }

none_kept : (p : ℕ → Bool) (xs : List ℕ) → length (filter (λ v. p v && not (p v)) xs) ≡ 0
none_kept p xs = filter_none (λ v. p v && not (p v)) xs (λ x. never_new (p x))

-- a vertex that no edit is of keeps its list
pub untouched_row : (es : List Edit) (u n : ℕ) (p : ℕ → Bool) (row : List ℕ) → es ≡ [] → row ≡ filter p (numbers_below n) → IsMerged es u n p row record { added = 0; removed = 0 }
untouched_row es u n p row none is =
    subst (λ l. IsMerged l u n p row record { added = 0; removed = 0 }) (sym none) record {
      list = is;
      gained = sym (none_kept p (numbers_below n));
      lost = sym (none_kept p (numbers_below n));
    }

-- the list of a vertex in a graph that it is a part of
pub row_in : (g : Graph) (p : Part) (i : ℕ) (row : List ℕ) → IsPart g p → i < length p.rows → row ≡ row_at p i → row ≡ filter (g.has_edge (vertex_at p i)) (numbers_below g.vertex_count)
row_in g p i row part inside is =
    let within = part.within in
    is ∙ part.each i inside ∙ neighbours-within g (vertex_at p i) (omega arith)

-- all vertices are done
pub all_done : (es : List Edit) (p q : Part) (counts : Counts) → AreEditsOf p es → q.range ≡ p.range → length q.rows ≡ length p.rows → ((g : Graph) → AreEditsBelow g.vertex_count es → IsPart g p → IsDone es p g q.rows counts) → IsPartAfter es p q × AreCounts es p counts
all_done es p q counts own range count done = (
  record {
    range = range;
    count = count;
    part = λ g below part. (let is = done g below part in let within = part.within in record {
      within = omega (arith, range, count);
      each = λ i h. is.each i h ∙ ap (λ r. neighbours (after_batch es g) (256 * r + i)) (sym range);
    });
  },
  record {
    gained = λ g below part.
        (let is = (done g below part).gained in
        let within = part.within in
        let k = g.vertex_count - vertex_at p (length q.rows) in
        let rest = count_past k (vertex_at p (length q.rows)) g.vertex_count (is_new es g) (λ w x h _. outside_new p es g w x own (λ low high. omega (arith, count))) in
        let whole : k + vertex_at p (length q.rows) ≡ g.vertex_count = omega (arith, count) in
        is ∙ sym rest ∙ ap (λ m. count_pairs m g.vertex_count (is_new es g)) whole);
    lost = λ g below part.
        (let is = (done g below part).lost in
        let within = part.within in
        let k = g.vertex_count - vertex_at p (length q.rows) in
        let rest = count_past k (vertex_at p (length q.rows)) g.vertex_count (is_gone es g) (λ w x h _. outside_gone p es g w x own (λ low high. omega (arith, count))) in
        let whole : k + vertex_at p (length q.rows) ≡ g.vertex_count = omega (arith, count) in
        is ∙ sym rest ∙ ap (λ m. count_pairs m g.vertex_count (is_gone es g)) whole);
  },
)

-- a range without an edge
pub empty_shard : (range vertices : ℕ) → range < MOST_RANGES → 1 ≤ vertices → vertices ≤ 256 → IsShard record { range = range; rows = replicate vertices []; homes = replicate vertices Block }
empty_shard range vertices low some few =
    let long : length {A = List ℕ} (replicate vertices []) ≡ vertices = length-replicate vertices [] in
    record {
      low = low;
      some = omega (arith, long);
      few = omega (arith, long);
      graph = empty_graph MOST_VERTICES;
      small = refl;
      part = record {
        within = omega (arith, long);
        each = λ i h. get_or-replicate vertices i [] [] (omega (arith, long)) ∙ sym (neighbours-empty_graph MOST_VERTICES (256 * range + i));
      };
      homes = record {
        count = length-replicate vertices Block ∙ sym long;
        each = λ i h. (
            let inside : i < vertices = omega (arith, length-replicate vertices Block) in
            subst₂ (λ home row. IsHomeOf home (length {A = ℕ} row)) (sym (get_or-replicate vertices i Block Block inside)) (sym (get_or-replicate vertices i [] [] inside)) (omega arith));
      };
    }

-- edits of a shard are edits of its graph
pub below_graph : (n : ℕ) (p : Part) (es : List Edit) → n ≡ MOST_VERTICES → vertex_at p (length p.rows) ≤ n → AreEditsOf p es → AreEditsBelow n es
below_graph n p [] is within own = tt
below_graph n p (e ∷ es) is within own = (
  (
    (let high = own.0.1 in omega arith),
    (let low = own.0.2 in omega arith),
  ),
  below_graph n p es is within own.1,
)

-- the shard after edits
pub next_shard : (es : List Edit) (p q : Part) → IsShard p → AreEditsOf p es → IsPartAfter es p q → AreHomes q → IsShard q
next_shard es p q is own after homes =
    let range = after.range in
    let count = after.count in
    let low = is.low in
    let some = is.some in
    let few = is.few in
    record {
      low = omega (arith, range);
      some = omega (arith, count);
      few = omega (arith, count);
      graph = after_batch es is.graph;
      small = is.small;
      part = after.part is.graph (below_graph is.graph.vertex_count p es is.small is.part.within own) is.part;
      homes = homes;
    }

-- no count passes the number of pairs
pub few_done : (es : List Edit) (p : Part) (g : Graph) (rows : List (List ℕ)) (counts : Counts) → g.vertex_count ≡ MOST_VERTICES → IsPart g p → length rows ≤ length p.rows → IsDone es p g rows counts → (counts.added ≤ MOST_VERTICES * MOST_VERTICES) × (counts.removed ≤ MOST_VERTICES * MOST_VERTICES)
few_done es p g rows counts small part short done =
    let within = part.within in
    let m : vertex_at p (length rows) ≤ MOST_VERTICES = omega arith in
    let n : g.vertex_count ≤ MOST_VERTICES = omega arith in (
      subst (λ k. k ≤ MOST_VERTICES * MOST_VERTICES) (sym done.gained) (le_trans (count_pairs-le (vertex_at p (length rows)) g.vertex_count (is_new es g)) (mul-le-mul m n)),
      subst (λ k. k ≤ MOST_VERTICES * MOST_VERTICES) (sym done.lost) (le_trans (count_pairs-le (vertex_at p (length rows)) g.vertex_count (is_gone es g)) (mul-le-mul m n)),
    )

-- the vertex at a place is done
pub row_done : (es : List Edit) (p : Part) (g : Graph) (rows : List (List ℕ)) (row : List ℕ) (counts more : Counts) (i : ℕ) → length rows ≡ i → i < length p.rows → length p.rows ≤ 256 → IsPart g p → IsDone es p g rows counts
    → IsMerged (own_edits p es i) (vertex_at p i) g.vertex_count (g.has_edge (vertex_at p i)) row more
    → IsDone es p g (rows ++ row ∷ []) record { added = counts.added + more.added; removed = counts.removed + more.removed }
row_done es p g rows row counts more i count inside few part done merged =
    one_done es p g rows row counts more (omega arith) few part done (subst (λ k. IsMerged (own_edits p es k) (vertex_at p k) g.vertex_count (g.has_edge (vertex_at p k)) row more) (sym count) merged)

abbrev counts_of : ℕ → ℕ → Counts
counts_of added removed = record { added = added; removed = removed }

-- and where no edit is of it, nothing more is counted
pub row_kept : (es : List Edit) (p : Part) (g : Graph) (rows : List (List ℕ)) (row : List ℕ) (counts : Counts) (i : ℕ) → length rows ≡ i → i < length p.rows → length p.rows ≤ 256 → IsPart g p → IsDone es p g rows counts
    → own_edits p es i ≡ [] → row ≡ row_at p i → IsDone es p g (rows ++ row ∷ []) counts
row_kept es p g rows row counts i count inside few part done none is =
    subst (IsDone es p g (rows ++ row ∷ [])) (ap₂ counts_of (add-zero counts.added) (add-zero counts.removed))
    (row_done es p g rows row counts record { added = 0; removed = 0 } i count inside few part done (untouched_row (own_edits p es i) (vertex_at p i) g.vertex_count (g.has_edge (vertex_at p i)) row none (row_in g p i row part inside is)))

-- the counts of one vertex more fit
pub few_more : (es : List Edit) (p : Part) (rows : List (List ℕ)) (row : List ℕ) (counts more : Counts) (i : ℕ) → IsShard p → AreEditsOf p es → length rows ≡ i → i < length p.rows
    → ((g : Graph) → AreEditsBelow g.vertex_count es → IsPart g p → IsDone es p g rows counts)
    → ((u n : ℕ) (q : ℕ → Bool) → AreEditsFrom u n (own_edits p es i) → row_at p i ≡ filter q (numbers_below n) → IsMerged (own_edits p es i) u n q row more)
    → (counts.added + more.added < 2 ^ 64) × (counts.removed + more.removed < 2 ^ 64)
few_more es p rows row counts more i is own count inside done merged =
    let g = is.graph in
    let small = is.small in
    let below = below_graph g.vertex_count p es is.small is.part.within own in
    let sums = few_done es p g rows counts is.small is.part (omega arith) (done g below is.part) in
    let one = merged (vertex_at p i) g.vertex_count (g.has_edge (vertex_at p i)) (own_edits_from g.vertex_count p es i is.few own below) (row_in g p i (row_at p i) is.part inside refl) in
    let gained = one.gained in
    let lost = one.lost in (
      omega (arith, sums.0, gained, length-filter_below (λ v. decision (own_edits p es i) (vertex_at p i) (g.has_edge (vertex_at p i)) v && not (g.has_edge (vertex_at p i) v)) g.vertex_count),
      omega (arith, sums.1, lost, length-filter_below (λ v. g.has_edge (vertex_at p i) v && not (decision (own_edits p es i) (vertex_at p i) (g.has_edge (vertex_at p i)) v)) g.vertex_count),
    )

-- the loop over the lists, at its end
pub rows_done : (es : List Edit) (p : Part) (rows : List (List ℕ)) (homes : List Home) (counts : Counts) → AreEditsOf p es → length rows ≡ length p.rows → ((g : Graph) → AreEditsBelow g.vertex_count es → IsPart g p → IsDone es p g rows counts) → IsPartAfter es p record { range = p.range; rows = rows; homes = homes } × AreCounts es p counts
rows_done es p rows homes counts own count done =
    all_done es p record { range = p.range; rows = rows; homes = homes } counts own refl count done

-- a list of a shard is short
pub few_targets : (p : Part) (i : ℕ) → IsShard p → i < length p.rows → length (row_at p i) ≤ MOST_VERTICES
few_targets p i is inside =
    let small = is.small in
    omega (arith, ap length (is.part.each i inside), length-neighbours is.graph (vertex_at p i))

-- what is known of the edits that were read for a vertex is known of its own
pub merged_own : (es own : List Edit) (p : Part) (row : List ℕ) (more : Counts) (i : ℕ) → own ≡ own_edits p es i → ((u n : ℕ) (q : ℕ → Bool) → AreEditsFrom u n own → row_at p i ≡ filter q (numbers_below n) → IsMerged own u n q row more)
    → (u n : ℕ) (q : ℕ → Bool) → AreEditsFrom u n (own_edits p es i) → row_at p i ≡ filter q (numbers_below n) → IsMerged (own_edits p es i) u n q row more
merged_own es own p row more i is merged u n q from same =
    subst (λ l. IsMerged l u n q row more) is (merged u n q (subst (AreEditsFrom u n) (sym is) from) same)

-- and a vertex that edits are of is done with it
pub row_edited : (es : List Edit) (p : Part) (g : Graph) (rows : List (List ℕ)) (row : List ℕ) (counts more : Counts) (i : ℕ) → length rows ≡ i → i < length p.rows → length p.rows ≤ 256 → AreEditsOf p es → AreEditsBelow g.vertex_count es → IsPart g p → IsDone es p g rows counts
    → ((u n : ℕ) (q : ℕ → Bool) → AreEditsFrom u n (own_edits p es i) → row_at p i ≡ filter q (numbers_below n) → IsMerged (own_edits p es i) u n q row more)
    → IsDone es p g (rows ++ row ∷ []) record { added = counts.added + more.added; removed = counts.removed + more.removed }
row_edited es p g rows row counts more i count inside few own below part done merged =
    row_done es p g rows row counts more i count inside few part done
    (merged (vertex_at p i) g.vertex_count (g.has_edge (vertex_at p i)) (own_edits_from g.vertex_count p es i few own below) (row_in g p i (row_at p i) part inside refl))
