-- A merge of a vertex's targets with its edits, one edit after another.
use Rattle.std.proofs.Common.{◌≡◌, ◌==◌, ℕ, ◌+◌, ◌-◌, ◌<◌, ◌≤◌, Bool, true, false, not, ◌&&◌, if◌then◌else◌, Option, Some, None, unwrap_or, suc, Result, Ok, Err, MatchResult, List, [], ◌∷◌, ◌++◌, length, get_or, take, drop, filter, All, insert, remove, refl, sym, ap, subst, ◌∙◌, inl, inr, append_assoc, length-append, take_at, drop_at, eq-eqb, eqb-true, arith}
use Rattle.std.specs.List.Sorted.{IsStrictlyIncreasing, IsNonDecreasingBy}
use Rattle.std.proofs.lemmas.Bool.{cases_Bool, cases_lt, ne_eqb}
use Rattle.std.proofs.lemmas.List.{drop_more, drop_all, get_or_append_left, get_or-append_right, get_or-append-add, get_or-take, take-append-drop, length-take-le, get_or_default}
use Rattle.std.proofs.lemmas.List.Elements.{All-append, All-push, All-weaker, All-nil, All-from_recursion, filter_agree}
use Rattle.std.proofs.lemmas.List.Kept.{IsStrictlyIncreasing-filter, AllPairs-from_increasing}
use Rattle.past_model.specs.declared.edit.Edit.{Edit}
use Rattle.past_model.specs.declared.edit.Edit.TheVariants.{Insert, Remove}
use Rattle.graph_model.specs.Graph.{numbers_below}
use Rattle.past_model.specs.Edits.{source_of, target_of, inserts, names, decided_first, last_word}
use Rattle.graph_model.proofs.Around.{one, IsGap, filters_differ, lengths_differ, search_ascending, search_finds, search_misses}
use Rattle.graph_model.proofs.Numbers.{numbers_below-ascend}
use Rattle.shards.specs.Merge.{decision, AreEditsFrom, IsMerged, Merging, merge_step, IsEdited}

-- a test after an edit of its vertex
abbrev pub test_after : Edit → (ℕ → Bool) → ℕ → Bool
test_after e test v = if target_of e == v then inserts e else test v

-- the first i edits are merged: the merged targets and the rest are those that a test lets through
pub record IsMerging (n : ℕ) (p : ℕ → Bool) (es : List Edit) (u i : ℕ) (m : Merging) : Type 0 where
  pub test : ℕ → Bool
  pub list : m.merged ++ m.rest ≡ filter test (numbers_below n)
  pub decides : (v : ℕ) → decision (drop i es) u test v ≡ decision es u p v
  pub untouched : (k : ℕ) (d : Edit) → i ≤ k → k < length es → test (target_of (get_or es k d)) ≡ p (target_of (get_or es k d))
  pub behind : (k : ℕ) (d : Edit) → i ≤ k → k < length es → All (λ x. x < target_of (get_or es k d)) m.merged
  pub gained : m.counts.added ≡ length (filter (λ v. test v && not (p v)) (numbers_below n))
  pub lost : m.counts.removed ≡ length (filter (λ v. p v && not (test v)) (numbers_below n))

filter_never : (xs : List ℕ) → length (filter (λ (x : ℕ). false) xs) ≡ 0
filter_never [] = refl
filter_never (x ∷ xs) = filter_never xs

never_new : (b : Bool) → (b && not b) ≡ false
never_new true = refl
never_new false = refl

nothing_new : (p : ℕ → Bool) (xs : List ℕ) → length (filter (λ v. p v && not (p v)) xs) ≡ 0
nothing_new p xs = ap length (filter_agree (λ v. p v && not (p v)) (λ v. false) (λ v. never_new (p v)) xs) ∙ filter_never xs

-- no edit is merged yet
pub no_edit_merged : (n : ℕ) (p : ℕ → Bool) (es : List Edit) (u : ℕ) (targets : List ℕ) → targets ≡ filter p (numbers_below n) → IsMerging n p es u 0 record { merged = []; rest = targets; counts = record { added = 0; removed = 0 } }
no_edit_merged n p es u targets is = record {
  test = p;
  list = is;
  decides = λ v. refl;
  untouched = λ k d low high. refl;
  behind = λ k d low high. All-nil (λ x. x < target_of (get_or es k d));
  gained = sym (nothing_new p (numbers_below n));
  lost = sym (nothing_new p (numbers_below n));
}

-- all are merged
pub all_edits_merged : (n : ℕ) (p : ℕ → Bool) (es : List Edit) (u i : ℕ) (m : Merging) → IsMerging n p es u i m → length es ≤ i → IsMerged es u n p (m.merged ++ m.rest) m.counts
all_edits_merged n p es u i m is ended =
    let same : (v : ℕ) → is.test v ≡ decision es u p v =
    λ v. ap (λ l. decision l u is.test v) (sym (drop_all i es ended)) ∙ is.decides v in
    record {
      list = is.list ∙ filter_agree is.test (decision es u p) same (numbers_below n);
      gained = is.gained ∙ ap length (filter_agree (λ v. is.test v && not (p v)) (λ v. decision es u p v && not (p v)) (λ v. ap (λ b. b && not (p v)) (same v)) (numbers_below n));
      lost = is.lost ∙ ap length (filter_agree (λ v. p v && not (is.test v)) (λ v. p v && not (decision es u p v)) (λ v. ap (λ b. p v && not b) (same v)) (numbers_below n));
    }

-- an edit that another of the same pair follows says nothing
said_again : (b x : Bool) (e : Edit) (u v : ℕ) → names e u v ≡ b → decided_first (if b then Some x else None) e u v ≡ (if b then Some x else None)
said_again true x e u v is = refl
said_again false x e u v is = ap (λ a. if a then Some (inserts e) else None) is

follows : (o : Option Bool) (e f : Edit) (u v : ℕ) → names e u v ≡ names f u v → decided_first (decided_first o f u v) e u v ≡ decided_first o f u v
follows (Some b) e f u v is = refl
follows None e f u v is = said_again (names f u v) (inserts f) e u v is

pub superseded : (n : ℕ) (p : ℕ → Bool) (es : List Edit) (u i : ℕ) (m : Merging) (d : Edit) → IsMerging n p es u i m → AreEditsFrom u n es → i + 1 < length es → target_of (get_or es (i + 1) d) ≡ target_of (get_or es i d) → IsMerging n p es u (i + 1) m
superseded n p es u i m d is from inside same =
    let all = All-from_recursion (λ e. (source_of e ≡ u) × (target_of e < n)) es from in
    let e = get_or es i d in
    let f = get_or es (i + 1) d in
    let source : source_of e ≡ source_of f = (all i d (omega arith)).0 ∙ sym ((all (i + 1) d inside).0) in
    let here : drop i es ≡ e ∷ drop (i + 1) es = drop_more es i d (omega arith) in
    let later : drop (i + 1) es ≡ f ∷ drop (i + 1 + 1) es = drop_more es (i + 1) d inside in
    record {
      test = is.test;
      list = is.list;
      decides = λ v.
          ap (λ l. decision l u is.test v) later
          ∙ ap (λ o. unwrap_or o (is.test v)) (sym (follows (last_word (drop (i + 1 + 1) es) u v) e f u v (ap (λ s. (s == u) && (target_of e == v)) source ∙ ap (λ t. (source_of f == u) && (t == v)) (sym same))))
          ∙ sym (ap (λ l. decision l u is.test v) (here ∙ ap (λ l. e ∷ l) later))
          ∙ is.decides v;
      untouched = λ k q low high. is.untouched k q (omega arith) high;
      behind = λ k q low high. is.behind k q (omega arith) high;
      gained = is.gained;
      lost = is.lost;
    }

-- what an edit decides of its vertex's pairs
decided_after : (o : Option Bool) (e : Edit) (u : ℕ) (test : ℕ → Bool) (v : ℕ) → source_of e ≡ u → unwrap_or (decided_first o e u v) (test v) ≡ unwrap_or o (test_after e test v)
decided_after (Some b) e u test v own = refl
decided_after None e u test v own =
    ap (λ b. unwrap_or (if (b && (target_of e == v)) then Some (inserts e) else None) (test v)) (eq-eqb (source_of e) u own) ∙ by_target (target_of e == v)
  where
    by_target : (b : Bool) → unwrap_or (if b then Some (inserts e) else None) (test v) ≡ (if b then inserts e else test v)
    by_target true = refl
    by_target false = refl

decided_later : (es : List Edit) (u i : ℕ) (test : ℕ → Bool) (d : Edit) (v : ℕ) → i < length es → source_of (get_or es i d) ≡ u → decision (drop (i + 1) es) u (test_after (get_or es i d) test) v ≡ decision (drop i es) u test v
decided_later es u i test d v inside own =
    sym (ap (λ l. decision l u test v) (drop_more es i d inside) ∙ decided_after (last_word (drop (i + 1) es) u v) (get_or es i d) u test v own)

pub test_after-own : (e : Edit) (test : ℕ → Bool) → test_after e test (target_of e) ≡ inserts e
test_after-own e test = ap (λ b. if b then inserts e else test (target_of e)) (eq-eqb (target_of e) (target_of e) refl)

pub test_after-other : (e : Edit) (test : ℕ → Bool) (v : ℕ) → (v ≡ target_of e → ⊥) → test_after e test v ≡ test v
test_after-other e test v ne = ap (λ b. if b then inserts e else test v) (ne_eqb (target_of e) v (λ same. ne (sym same)))

test_after-idle : (e : Edit) (test : ℕ → Bool) (v : ℕ) → test (target_of e) ≡ inserts e → test_after e test v ≡ test v
test_after-idle e test v so =
    elim (cases_Bool (target_of e == v)) [
      | inl t ↦ ap (λ b. if b then inserts e else test v) t ∙ sym so ∙ ap test (eqb-true (target_of e) v t)
      | inr f ↦ ap (λ b. if b then inserts e else test v) f
    ]

-- an edit that says what is so
pub idle_edit : (n : ℕ) (p : ℕ → Bool) (es : List Edit) (u i : ℕ) (m : Merging) (d : Edit) → (is : IsMerging n p es u i m) → i < length es → source_of (get_or es i d) ≡ u → is.test (target_of (get_or es i d)) ≡ inserts (get_or es i d) → IsMerging n p es u (i + 1) m
idle_edit n p es u i m d is inside own so = record {
  test = is.test;
  list = is.list;
  decides = λ v.
      ap (unwrap_or (last_word (drop (i + 1) es) u v)) (sym (test_after-idle (get_or es i d) is.test v so))
      ∙ decided_later es u i is.test d v inside own
      ∙ is.decides v;
  untouched = λ k q low high. is.untouched k q (omega arith) high;
  behind = λ k q low high. is.behind k q (omega arith) high;
  gained = is.gained;
  lost = is.lost;
}

-- how the counts change where the test does
pub count_after : (n t : ℕ) (f g : ℕ → Bool) → t < n → ((x : ℕ) → (x ≡ t → ⊥) → f x ≡ g x) → length (filter f (numbers_below n)) + one (g t) ≡ length (filter g (numbers_below n)) + one (f t)
count_after n t f g low agree = lengths_differ (filters_differ f g n t low agree)

-- an edit that changes the list
pub changing_edit : (n : ℕ) (p : ℕ → Bool) (es : List Edit) (u i : ℕ) (m k : Merging) (e d : Edit) → (is : IsMerging n p es u i m) → i < length es → e ≡ get_or es i d → source_of e ≡ u → target_of e < n
    → ((j : ℕ) (q : Edit) → i + 1 ≤ j → j < length es → target_of e < target_of (get_or es j q))
    → k.merged ++ k.rest ≡ filter (test_after e is.test) (numbers_below n)
    → ((y : ℕ) → target_of e < y → All (λ x. x < y) k.merged)
    → k.counts.added ≡ length (filter (λ v. test_after e is.test v && not (p v)) (numbers_below n))
    → k.counts.removed ≡ length (filter (λ v. p v && not (test_after e is.test v)) (numbers_below n))
    → IsMerging n p es u (i + 1) k
changing_edit n p es u i m k e d is inside here own low later list behind gained lost = record {
  test = test_after e is.test;
  list = list;
  decides = λ v.
      ap (λ x. decision (drop (i + 1) es) u (test_after x is.test) v) here
      ∙ decided_later es u i is.test d v inside (ap source_of (sym here) ∙ own)
      ∙ is.decides v;
  untouched = λ j q from high.
      test_after-other e is.test (target_of (get_or es j q)) (λ same. let above = later j q from high in omega arith)
      ∙ is.untouched j q (omega arith) high;
  behind = λ j q from high. behind (target_of (get_or es j q)) (later j q from high);
  gained = gained;
  lost = lost;
}

rest_ascends : (out rest : List ℕ) → IsStrictlyIncreasing (out ++ rest) → IsStrictlyIncreasing rest
rest_ascends out rest up k h =
    let at = get_or-append-add out rest k 0 in
    let next = get_or-append-add out rest (k + 1) 0 in
    let less : get_or (out ++ rest) (length out + k) 0 < get_or (out ++ rest) (length out + k + 1) 0 = up (length out + k) (omega (arith, length-append out rest)) in
    let shift : length out + k + 1 ≡ length out + (k + 1) = omega arith in
    let same = ap (λ j. get_or (out ++ rest) j 0) shift in
    omega (arith, at, next, less, same)

-- the place that a search gave in the rest is one in the whole list
lifted_gap : (out rest : List ℕ) (t i : ℕ) → All (λ x. x < t) out → IsGap rest t i → IsGap (out ++ rest) t (length out + i)
lifted_gap out rest t i behind gap = (
  omega (arith, gap.0, length-append out rest),
  λ k h. elim (cases_lt k (length out)) [
    | inl lt ↦ (let at = get_or_append_left out rest 0 k lt in let less = behind k 0 lt in omega (arith, at, less))
    | inr ge ↦ (let at = get_or-append_right out rest (length out) k 0 refl ge in let less = gap.1 (k - length out) (omega arith) in omega (arith, at, less))
  ],
  λ k low high.
      (let ge : length out ≤ k = omega arith in
      let at = get_or-append_right out rest (length out) k 0 refl ge in
      let less = gap.2 (k - length out) (omega arith) (omega (arith, length-append out rest)) in
      omega (arith, at, less)),
)

split_at : (out rest : List ℕ) (i : ℕ) → out ++ rest ≡ (out ++ take i rest) ++ drop i rest
split_at out rest i = ap (λ l. out ++ l) (sym (take-append-drop i rest)) ∙ sym (append_assoc out (take i rest) (drop i rest))

length_split : (out rest : List ℕ) (i : ℕ) → i ≤ length rest → length (out ++ take i rest) ≡ length out + i
length_split out rest i h = omega (arith, length-append out (take i rest), length-take-le i rest h)

insert_split : (out rest : List ℕ) (i t : ℕ) → i ≤ length rest → insert (out ++ rest) (length out + i) t ≡ ((out ++ take i rest) ++ t ∷ []) ++ drop i rest
insert_split out rest i t h =
    ap (λ l. insert l (length out + i) t) (split_at out rest i)
    ∙ ap (λ l. l ++ t ∷ drop (length out + i) ((out ++ take i rest) ++ drop i rest)) (take_at (out ++ take i rest) (drop i rest) (length out + i) (length_split out rest i h))
    ∙ ap (λ l. (out ++ take i rest) ++ t ∷ l) (drop_at (out ++ take i rest) (drop i rest) (length out + i) (length_split out rest i h))
    ∙ sym (append_assoc (out ++ take i rest) (t ∷ []) (drop i rest))

remove_split : (out rest : List ℕ) (i : ℕ) → i < length rest → remove (out ++ rest) (length out + i) ≡ (out ++ take i rest) ++ drop (i + 1) rest
remove_split out rest i h =
    let whole = split_at out rest i ∙ ap (λ l. (out ++ take i rest) ++ l) (drop_more rest i 0 h) ∙ sym (append_assoc (out ++ take i rest) (get_or rest i 0 ∷ []) (drop (i + 1) rest)) in
    let long = length_split out rest i (omega arith) in
    ap (λ l. l ++ drop (suc (length out + i)) (out ++ rest)) (ap (take (length out + i)) (split_at out rest i) ∙ take_at (out ++ take i rest) (drop i rest) (length out + i) long)
    ∙ ap (λ l. (out ++ take i rest) ++ l) (ap (drop (suc (length out + i))) whole ∙ drop_at ((out ++ take i rest) ++ get_or rest i 0 ∷ []) (drop (i + 1) rest) (suc (length out + i)) (omega (arith, length-append (out ++ take i rest) (get_or rest i 0 ∷ []), long)))

-- where a search in the rest finds a target, it is let through, and the edit that removes it takes it out
found_in_rest : (n t i : ℕ) (f g : ℕ → Bool) (out rest : List ℕ) → out ++ rest ≡ filter f (numbers_below n) → t < n → ((x : ℕ) → (x ≡ t → ⊥) → f x ≡ g x) → i < length rest → get_or rest i 0 ≡ t → (f t ≡ true) × (g t ≡ false → filter g (numbers_below n) ≡ (out ++ take i rest) ++ drop (i + 1) rest)
found_in_rest n t i f g out rest list low agree inside at =
    let whole = search_finds (length out + i) (filters_differ f g n t low agree)
    (subst (λ l. length out + i < length l) list (omega (arith, length-append out rest)))
    (subst (λ l. get_or l (length out + i) 0 ≡ t) list (get_or-append-add out rest i 0 ∙ at)) in
    (whole.0, λ off. whole.1 off ∙ sym (ap (λ l. remove l (length out + i)) list) ∙ remove_split out rest i inside)

-- where it finds none, it is not, and the edit that inserts it puts it there
missed_in_rest : (n t i : ℕ) (f g : ℕ → Bool) (out rest : List ℕ) → out ++ rest ≡ filter f (numbers_below n) → t < n → ((x : ℕ) → (x ≡ t → ⊥) → f x ≡ g x) → All (λ x. x < t) out → IsGap rest t i → (f t ≡ false) × (g t ≡ true → filter g (numbers_below n) ≡ ((out ++ take i rest) ++ t ∷ []) ++ drop i rest)
missed_in_rest n t i f g out rest list low agree behind gap =
    let whole = search_misses (length out + i) (filters_differ f g n t low agree) (subst (λ l. IsGap l t (length out + i)) list (lifted_gap out rest t i behind gap)) in
    (whole.0, λ on. whole.1 on ∙ sym (ap (λ l. insert l (length out + i) t) list) ∙ insert_split out rest i t gap.0)

rest_behind : (out rest : List ℕ) (t i : ℕ) → All (λ x. x < t) out → (i ≤ length rest) → ((k : ℕ) → k < i → get_or rest k 0 < t) → All (λ x. x < t) (out ++ take i rest)
rest_behind out rest t i behind short before =
    All-append (λ x. x < t) out (take i rest) behind (λ k q h.
    let few : k < i = omega (arith, length-take-le i rest short) in
    let at = get_or-take i rest k q few in
    let other = get_or_default rest k q 0 (omega arith) in
    let less = before k few in
    omega (arith, at, other, less))

-- an insertion of a target that is not there
merge_insertion : (n : ℕ) (p : ℕ → Bool) (es : List Edit) (u i : ℕ) (m : Merging) (s t at : ℕ) (d : Edit) → (is : IsMerging n p es u i m) → i < length es → Insert s t ≡ get_or es i d → s ≡ u → t < n → is.test t ≡ p t → All (λ x. x < t) m.merged → ((j : ℕ) (q : Edit) → i + 1 ≤ j → j < length es → t < target_of (get_or es j q)) → IsGap m.rest t at → IsMerging n p es u (i + 1) (merge_step (Insert s t) (Err at) m)
merge_insertion n p es u i m s t at d is inside here own low same behind later gap =
    let e = Insert s t in
    let g = test_after e is.test in
    let agree : (x : ℕ) → (x ≡ t → ⊥) → is.test x ≡ g x = λ x ne. sym (test_after-other e is.test x ne) in
    let list = missed_in_rest n t at is.test g m.merged m.rest is.list low agree behind gap in
    let was : p t ≡ false = sym same ∙ list.0 in
    let now : g t ≡ true = test_after-own e is.test in
    let more = count_after n t (λ v. g v && not (p v)) (λ v. is.test v && not (p v)) low (λ x ne. ap (λ b. b && not (p x)) (sym (agree x ne))) in
    let other = count_after n t (λ v. p v && not (g v)) (λ v. p v && not (is.test v)) low (λ x ne. ap (λ b. p x && not b) (sym (agree x ne))) in
    let a : one (is.test t && not (p t)) ≡ 0 = ap (λ b. one (b && not (p t))) list.0 in
    let b : one (g t && not (p t)) ≡ 1 = ap (λ x. one (x && not (p t))) now ∙ ap (λ x. one (not x)) was in
    let c : one (p t && not (is.test t)) ≡ 0 = ap (λ x. one (x && not (is.test t))) was in
    let f : one (p t && not (g t)) ≡ 0 = ap (λ x. one (x && not (g t))) was in
    let gained = is.gained in
    let lost = is.lost in
    changing_edit n p es u i m (merge_step e (Err at) m) e d is inside here own low later
    (sym (list.1 now))
    (λ y above. All-push (λ x. x < y) (m.merged ++ take at m.rest) t (All-weaker (λ x. x < t) (λ x. x < y) (λ x less. omega arith) (m.merged ++ take at m.rest) (rest_behind m.merged m.rest t at behind gap.0 gap.1)) above)
    (omega (arith, gained, more, a, b))
    (omega (arith, lost, other, c, f))

-- a removal of one that is there
merge_removal : (n : ℕ) (p : ℕ → Bool) (es : List Edit) (u i : ℕ) (m : Merging) (s t at : ℕ) (d : Edit) → (is : IsMerging n p es u i m) → i < length es → Remove s t ≡ get_or es i d → s ≡ u → t < n → is.test t ≡ p t → All (λ x. x < t) m.merged → ((j : ℕ) (q : Edit) → i + 1 ≤ j → j < length es → t < target_of (get_or es j q)) → IsStrictlyIncreasing m.rest → at < length m.rest → get_or m.rest at 0 ≡ t → IsMerging n p es u (i + 1) (merge_step (Remove s t) (Ok at) m)
merge_removal n p es u i m s t at d is inside here own low same behind later up within found =
    let e = Remove s t in
    let g = test_after e is.test in
    let agree : (x : ℕ) → (x ≡ t → ⊥) → is.test x ≡ g x = λ x ne. sym (test_after-other e is.test x ne) in
    let list = found_in_rest n t at is.test g m.merged m.rest is.list low agree within found in
    let was : p t ≡ true = sym same ∙ list.0 in
    let now : g t ≡ false = test_after-own e is.test in
    let more = count_after n t (λ v. g v && not (p v)) (λ v. is.test v && not (p v)) low (λ x ne. ap (λ b. b && not (p x)) (sym (agree x ne))) in
    let other = count_after n t (λ v. p v && not (g v)) (λ v. p v && not (is.test v)) low (λ x ne. ap (λ b. p x && not b) (sym (agree x ne))) in
    let a : one (is.test t && not (p t)) ≡ 0 = ap (λ x. one (x && not (p t))) list.0 ∙ ap (λ x. one (not x)) was in
    let b : one (g t && not (p t)) ≡ 0 = ap (λ x. one (x && not (p t))) now in
    let c : one (p t && not (is.test t)) ≡ 0 = ap (λ x. one (x && not (is.test t))) was ∙ ap (λ x. one (not x)) list.0 in
    let f : one (p t && not (g t)) ≡ 1 = ap (λ x. one (x && not (g t))) was ∙ ap (λ x. one (not x)) now in
    let gained = is.gained in
    let lost = is.lost in
    let before : (k : ℕ) → k < at → get_or m.rest k 0 < t = λ k h. (let less = AllPairs-from_increasing m.rest up k at 0 h within in omega (arith, less, found)) in
    changing_edit n p es u i m (merge_step e (Ok at) m) e d is inside here own low later
    (sym (list.1 now))
    (λ y above. All-weaker (λ x. x < t) (λ x. x < y) (λ x less. omega arith) (m.merged ++ take at m.rest) (rest_behind m.merged m.rest t at behind (omega arith) before))
    (omega (arith, gained, more, a, b))
    (omega (arith, lost, other, c, f))

-- by the search's answer
merge_by : (n : ℕ) (p : ℕ → Bool) (es : List Edit) (u i : ℕ) (m : Merging) (e d : Edit) (r : Result ℕ ℕ) → (is : IsMerging n p es u i m) → i < length es → e ≡ get_or es i d → source_of e ≡ u → target_of e < n → is.test (target_of e) ≡ p (target_of e) → All (λ x. x < target_of e) m.merged → ((j : ℕ) (q : Edit) → i + 1 ≤ j → j < length es → target_of e < target_of (get_or es j q)) → IsStrictlyIncreasing m.rest → MatchResult r (λ at. (at < length m.rest) × (get_or m.rest at 0 ≡ target_of e)) (IsGap m.rest (target_of e)) → IsMerging n p es u (i + 1) (merge_step e r m)
merge_by n p es u i m (Insert s t) d (Ok at) is inside here own low same behind later up found =
    let there = (found_in_rest n t at is.test is.test m.merged m.rest is.list low (λ x ne. refl) found.0 found.1).0 in
    idle_edit n p es u i m d is inside (ap source_of (sym here) ∙ own) (ap (λ x. is.test (target_of x)) (sym here) ∙ there ∙ ap inserts here)
merge_by n p es u i m (Insert s t) d (Err at) is inside here own low same behind later up gap =
    merge_insertion n p es u i m s t at d is inside here own low same behind later gap
merge_by n p es u i m (Remove s t) d (Ok at) is inside here own low same behind later up found =
    merge_removal n p es u i m s t at d is inside here own low same behind later up found.0 found.1
merge_by n p es u i m (Remove s t) d (Err at) is inside here own low same behind later up gap =
    let gone = (missed_in_rest n t at is.test is.test m.merged m.rest is.list low (λ x ne. refl) behind gap).0 in
    idle_edit n p es u i m d is inside (ap source_of (sym here) ∙ own) (ap (λ x. is.test (target_of x)) (sym here) ∙ gone ∙ ap inserts here)

-- one edit more, where no later one has its target
pub merge_one : (n : ℕ) (p : ℕ → Bool) (es : List Edit) (u i : ℕ) (m k : Merging) (e d : Edit) → IsMerging n p es u i m → AreEditsFrom u n es → i < length es → e ≡ get_or es i d → ((j : ℕ) (q : Edit) → i + 1 ≤ j → j < length es → target_of e < target_of (get_or es j q)) → IsEdited e m k → IsMerging n p es u (i + 1) k
merge_one n p es u i m k e d is from inside here later step =
    let own : (source_of e ≡ u) × (target_of e < n) = subst (λ x. (source_of x ≡ u) × (target_of x < n)) (sym here) (All-from_recursion (λ x. (source_of x ≡ u) × (target_of x < n)) es from i d inside) in
    let behind : All (λ x. x < target_of e) m.merged = subst (λ x. All (λ y. y < target_of x) m.merged) (sym here) (is.behind i d (omega arith) inside) in
    let same : is.test (target_of e) ≡ p (target_of e) = subst (λ x. is.test (target_of x) ≡ p (target_of x)) (sym here) (is.untouched i d (omega arith) inside) in
    let up = rest_ascends m.merged m.rest (subst IsStrictlyIncreasing (sym is.list) (IsStrictlyIncreasing-filter is.test (numbers_below n) (numbers_below-ascend n))) in
    subst (IsMerging n p es u (i + 1)) (sym step.2) (merge_by n p es u i m e d step.0 is inside here own.0 own.1 same behind later up (search_ascending m.rest (target_of e) step.0 up step.1))

-- edits that ascend, and whose next one has another target, have none with the same target later
pub strictly_later : (es : List Edit) (i : ℕ) (d : Edit) → IsNonDecreasingBy target_of es → i < length es → (i + 1 < length es → target_of (get_or es (i + 1) d) ≡ target_of (get_or es i d) → ⊥) → (j : ℕ) (q : Edit) → i + 1 ≤ j → j < length es → target_of (get_or es i d) < target_of (get_or es j q)
strictly_later es i d sorted inside apart j q from high =
    let next : i + 1 < length es = omega arith in
    let one_on = sorted i (i + 1) d (omega arith) next in
    let on = sorted (i + 1) j d from high in
    let at = ap target_of (get_or_default es j d q high) in
    let ne = apart next in
    omega (arith, one_on, on, at, ne)

few_by : (e : Edit) (r : Result ℕ ℕ) (m : Merging) → ((merge_step e r m).counts.added ≤ m.counts.added + 1) × ((merge_step e r m).counts.removed ≤ m.counts.removed + 1)
few_by (Insert s t) (Ok i) m = (omega arith, omega arith)
few_by (Insert s t) (Err i) m = (omega arith, omega arith)
few_by (Remove s t) (Ok i) m = (omega arith, omega arith)
few_by (Remove s t) (Err i) m = (omega arith, omega arith)

-- one edit counts once at most
pub few_edited : (e : Edit) (m k : Merging) → IsEdited e m k → (k.counts.added ≤ m.counts.added + 1) × (k.counts.removed ≤ m.counts.removed + 1)
few_edited e m k step = subst (λ x. (x.counts.added ≤ m.counts.added + 1) × (x.counts.removed ≤ m.counts.removed + 1)) (sym step.2) (few_by e step.0 m)
