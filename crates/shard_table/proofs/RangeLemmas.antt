-- The edits of a range of a graph: which part they are of, what they say, and what they do.
use Rattle.std.proofs.Common.{◌≡◌, ◌==◌, ℕ, zero, suc, ◌+◌, ◌-◌, ◌*◌, ◌/◌, ◌<◌, ◌≤◌, Bool, false, not, ◌&&◌, cond, if◌then◌else◌, Some, None, unwrap_or, List, [], ◌∷◌, length, refl, sym, ap, subst, ◌∙◌, inl, inr, eqb-true, arith}
use Rattle.std.specs.List.{AllByRecursion}
use Rattle.std.proofs.lemmas.Bool.{cases_Bool, and_parts, false_from_ne_true}
use Rattle.std.proofs.lemmas.List.Elements.{filter_agree}
use Rattle.past_model.specs.declared.limits.TheConstants.{MOST_VERTICES}
use Rattle.past_model.specs.declared.edit.Edit.{Edit}
use Rattle.graph_model.specs.Graph.{Graph, numbers_below, count_pairs}
use Rattle.past_model.specs.Edits.{source_of, target_of, inserts, names, decided_first, last_word, after_batch, added, removed, AreEditsBelow}
use Rattle.graph_model.proofs.Neighbours.{neighbours_agree}
use Rattle.graph_model.proofs.Pairs.{count_pairs-suc}
use Rattle.shards.specs.declared.groups.Grouping.TheVariants.{ByRange}
use Rattle.shards.specs.Groups.{edits_of}
use Rattle.shards.specs.Part.{Part, vertex_at, IsPart, AreEditsOf}
use Rattle.shard_table.specs.Table.{IsTable, IsPartAt}
use Rattle.shards.specs.Begun.{is_new, is_gone}
use Rattle.shard_table.specs.Blocks.{vertices_in}
use Rattle.shards.proofs.PartLemmas.{group_word, count_none, count_past, never_new}

-- the edits of a range
abbrev pub range_edits : ℕ → List Edit → ℕ → List Edit
range_edits count es range = edits_of record { grouping = ByRange; count = count; edits = es } range

-- each edit is in the group of a range
pub in_ranges : (g : Graph) (parts : List Part) (es : List Edit) → IsTable g parts → AreEditsBelow g.vertex_count es → AllByRecursion (λ e. source_of e / 256 < length parts) es
in_ranges g parts [] table below = tt
in_ranges g parts (e ∷ es) table below = (
  (let low = below.0.0 in (table.ranges (source_of e / 256)).1 (omega arith)),
  in_ranges g parts es table below.1,
)

pub range_below : (n count : ℕ) (es : List Edit) (range : ℕ) → AreEditsBelow n es → AreEditsBelow n (range_edits count es range)
range_below n count [] range below = tt
range_below n count (e ∷ es) range below =
    elim (cases_Bool (source_of e / 256 == range)) [
      | inl t ↦ subst (λ b. AreEditsBelow n (cond b (e ∷ range_edits count es range) (range_edits count es range))) (sym t) (below.0, range_below n count es range below.1)
      | inr f ↦ subst (λ b. AreEditsBelow n (cond b (e ∷ range_edits count es range) (range_edits count es range))) (sym f) (range_below n count es range below.1)
    ]

-- those of a range are of its part
pub range_own : (g : Graph) (p : Part) (count : ℕ) (es : List Edit) (range : ℕ) → g.vertex_count ≤ MOST_VERTICES → IsPartAt g range p → AreEditsBelow g.vertex_count es → AreEditsOf p (range_edits count es range)
range_own g p count [] range small at below = tt
range_own g p count (e ∷ es) range small at below =
    elim (cases_Bool (source_of e / 256 == range)) [
      | inl t ↦ subst (λ b. AreEditsOf p (cond b (e ∷ range_edits count es range) (range_edits count es range))) (sym t) (
        (let number = at.number in
            let size = at.size in
            let source = below.0.0 in
            let target = below.0.1 in
            let mine : source_of e / 256 ≡ range = eqb-true (source_of e / 256) range t in
            (omega arith, omega arith, omega arith)),
        range_own g p count es range small at below.1,
      )
      | inr f ↦ subst (λ b. AreEditsOf p (cond b (e ∷ range_edits count es range) (range_edits count es range))) (sym f) (range_own g p count es range small at below.1)
    ]

-- they say nothing of a vertex of another range
other_word : (count : ℕ) (es : List Edit) (range u v : ℕ) → (u / 256 ≡ range → ⊥) → last_word (range_edits count es range) u v ≡ None
other_word count [] range u v ne = refl
other_word count (e ∷ es) range u v ne =
    elim (cases_Bool (source_of e / 256 == range)) [
      | inl t ↦ (
          let mine : source_of e / 256 ≡ range = eqb-true (source_of e / 256) range t in
          let unnamed : names e u v ≡ false = false_from_ne_true (names e u v) (λ named.
          let source : source_of e ≡ u = eqb-true (source_of e) u (and_parts (source_of e == u) (target_of e == v) named).0 in
          ne (ap (λ s. s / 256) (sym source) ∙ mine)) in
          ap (λ b. last_word (cond b (e ∷ range_edits count es range) (range_edits count es range)) u v) t
          ∙ ap (λ o. decided_first o e u v) (other_word count es range u v ne)
          ∙ ap (λ b. if b then Some (inserts e) else None) unnamed)
      | inr f ↦ ap (λ b. last_word (cond b (e ∷ range_edits count es range) (range_edits count es range)) u v) f ∙ other_word count es range u v ne
    ]

-- a part after the edits of its range is that after all edits
pub part_after : (g : Graph) (p q : Part) (count : ℕ) (es : List Edit) (range : ℕ) → IsPartAt g range p → q.range ≡ p.range → length q.rows ≡ length p.rows → IsPart (after_batch (range_edits count es range) g) q → IsPartAt (after_batch es g) range q
part_after g p q count es range at same long is =
    let number = at.number in
    let size = at.size in
    record {
      number = same ∙ number;
      size = long ∙ size;
      part = record {
        within = is.within;
        each = λ i h. is.each i h ∙ neighbours_agree (after_batch (range_edits count es range) g) (after_batch es g) (vertex_at q i) refl
            (λ v. ap (λ o. unwrap_or o (g.has_edge (vertex_at q i) v)) (group_word ByRange count es range (vertex_at q i) v (omega (arith, same, long))));
      };
    }

-- rows from a on, below b, counted by a test that knows no others
rows_between : (k a n : ℕ) (f h : ℕ → ℕ → Bool) → ((w x : ℕ) → w < a → h w x ≡ false) → ((w x : ℕ) → a ≤ w → w < k + a → h w x ≡ f w x) → count_pairs (k + a) n h + count_pairs a n f ≡ count_pairs (k + a) n f
rows_between zero a n f h before same =
    let shift : zero + a ≡ a = omega arith in
    omega (arith, ap (λ m. count_pairs m n h) shift, ap (λ m. count_pairs m n f) shift, count_none a n h before)
rows_between (suc k) a n f h before same =
    let shift : suc k + a ≡ suc (k + a) = omega arith in
    let row = ap length (filter_agree (h (k + a)) (f (k + a)) (λ x. same (k + a) x (omega arith) (omega arith)) (numbers_below n)) in
    omega (arith, ap (λ m. count_pairs m n h) shift, ap (λ m. count_pairs m n f) shift, count_pairs-suc (k + a) n h, count_pairs-suc (k + a) n f, row, rows_between k a n f h before (λ w x low high. same w x low (omega arith)))

range_count : (a b n : ℕ) (f h : ℕ → ℕ → Bool) → a ≤ b → b ≤ n → ((w x : ℕ) → w < a → h w x ≡ false) → ((w x : ℕ) → a ≤ w → w < b → h w x ≡ f w x) → ((w x : ℕ) → b ≤ w → w < n → h w x ≡ false) → count_pairs n n h + count_pairs a n f ≡ count_pairs b n f
range_count a b n f h low high before same past =
    let whole : (n - b) + b ≡ n = omega arith in
    let part : (b - a) + a ≡ b = omega arith in
    let rest = count_past (n - b) b n h (λ w x from to. past w x from (omega arith)) in
    let own = rows_between (b - a) a n f h before (λ w x from to. same w x from (omega arith)) in
    omega (arith, ap (λ m. count_pairs m n h) whole, rest, ap (λ m. count_pairs m n h) part, ap (λ m. count_pairs m n f) part, own)

new_in : (count : ℕ) (es : List Edit) (g : Graph) (range w x : ℕ) → w / 256 ≡ range → is_new (range_edits count es range) g w x ≡ is_new es g w x
new_in count es g range w x is = ap (λ o. unwrap_or o (g.has_edge w x) && not (g.has_edge w x)) (group_word ByRange count es range w x is)

new_out : (count : ℕ) (es : List Edit) (g : Graph) (range w x : ℕ) → (w / 256 ≡ range → ⊥) → is_new (range_edits count es range) g w x ≡ false
new_out count es g range w x ne = ap (λ o. unwrap_or o (g.has_edge w x) && not (g.has_edge w x)) (other_word count es range w x ne) ∙ never_new (g.has_edge w x)

gone_in : (count : ℕ) (es : List Edit) (g : Graph) (range w x : ℕ) → w / 256 ≡ range → is_gone (range_edits count es range) g w x ≡ is_gone es g w x
gone_in count es g range w x is = ap (λ o. g.has_edge w x && not (unwrap_or o (g.has_edge w x))) (group_word ByRange count es range w x is)

gone_out : (count : ℕ) (es : List Edit) (g : Graph) (range w x : ℕ) → (w / 256 ≡ range → ⊥) → is_gone (range_edits count es range) g w x ≡ false
gone_out count es g range w x ne = ap (λ o. g.has_edge w x && not (unwrap_or o (g.has_edge w x))) (other_word count es range w x ne) ∙ never_new (g.has_edge w x)

pub range_gained : (count : ℕ) (es : List Edit) (g : Graph) (range : ℕ) → 256 * range < g.vertex_count → added (range_edits count es range) g + count_pairs (vertices_in g.vertex_count range) g.vertex_count (is_new es g) ≡ count_pairs (vertices_in g.vertex_count (range + 1)) g.vertex_count (is_new es g)
range_gained count es g range inside =
    range_count (vertices_in g.vertex_count range) (vertices_in g.vertex_count (range + 1)) g.vertex_count (is_new es g) (is_new (range_edits count es range) g) (omega arith) (omega arith)
    (λ w x h. new_out count es g range w x (λ e. omega arith))
    (λ w x low high. new_in count es g range w x (omega arith))
    (λ w x h least. new_out count es g range w x (λ e. omega arith))

pub range_lost : (count : ℕ) (es : List Edit) (g : Graph) (range : ℕ) → 256 * range < g.vertex_count → removed (range_edits count es range) g + count_pairs (vertices_in g.vertex_count range) g.vertex_count (is_gone es g) ≡ count_pairs (vertices_in g.vertex_count (range + 1)) g.vertex_count (is_gone es g)
range_lost count es g range inside =
    range_count (vertices_in g.vertex_count range) (vertices_in g.vertex_count (range + 1)) g.vertex_count (is_gone es g) (is_gone (range_edits count es range) g) (omega arith) (omega arith)
    (λ w x h. gone_out count es g range w x (λ e. omega arith))
    (λ w x low high. gone_in count es g range w x (omega arith))
    (λ w x h least. gone_out count es g range w x (λ e. omega arith))

-- no edit does nothing
pub no_edit : (g : Graph) (es : List Edit) → es ≡ [] → (added es g ≡ 0) × (removed es g ≡ 0)
no_edit g es none = (
  ap (λ l. added l g) none ∙ count_none g.vertex_count g.vertex_count (is_new [] g) (λ w x h. never_new (g.has_edge w x)),
  ap (λ l. removed l g) none ∙ count_none g.vertex_count g.vertex_count (is_gone [] g) (λ w x h. never_new (g.has_edge w x)),
)

pub same_part : (g : Graph) (p : Part) (es : List Edit) → es ≡ [] → IsPart g p → IsPart (after_batch es g) p
same_part g p es none part =
    subst (λ l. IsPart (after_batch l g) p) (sym none) record {
      within = part.within;
      each = λ i h. part.each i h ∙ neighbours_agree g (after_batch [] g) (vertex_at p i) refl (λ v. refl);
    }
