-- Epochs: pasts in their order, and what a rebase keeps.
use Rattle.std.proofs.Common.{◌≡◌, ◌≢◌, ℕ, ◌+◌, ◌<◌, ◌≤◌, List, [], ◌∷◌, ◌++◌, length, refl, sym, ap, subst, ◌∙◌, inl, inr, append_assoc, length-append, le_trans, arith}
use mathlib.Core.List.{IsPrefix}
use Rattle.std.proofs.lemmas.List.Elements.{filter-append}
use Rattle.std.specs.Prelude.{◌==◌, Bool, true, false, slice_set}
use Rattle.std.proofs.Common.{cond}
use Rattle.past_model.specs.declared.limits.TheConstants.{FEEDS}
use Rattle.past_model.specs.declared.entry.Entry.{Entry}
use Rattle.graph_model.specs.Graph.{Graph, IsGraph}
use Rattle.past_model.specs.Past.{Past, IsPast, graph_of, longer, of_feed}
use Rattle.past_model.specs.Homes.{home_of}
use Rattle.past_model.specs.Epochs.{mark_of, marked, ended_batches, branched, rebased, IsBefore, IsBeforeInEpoch, IsOfEndedEpoch, AreSince}
use Rattle.past_model.specs.EpochLaws.{RebaseChangesNothing, BranchBeginsAnew, PastsAreInOrder, PublicationsGoOn}
use Rattle.past_model.proofs.Beginnings.{prefix_self, prefix_more, prefix_trans, prefix_whole, prefix_length}
use Rattle.past_model.proofs.Pasts.{vertex_count-graph_of, IsGraph-graph_of}
use Rattle.past_model.proofs.HomeLemmas.{home_of-outside}
use Rattle.graph_model.proofs.Neighbours.{Contains-neighbours}
use Rattle.graph_model.proofs.Numbers.{length-numbers_below, get_or-numbers_below}
use Rattle.graph_model.specs.Graph.{neighbours, numbers_below}
use Rattle.past_model.specs.declared.home.Home.TheVariants.{Block}
use Rattle.std.specs.List.{list_any}
use Rattle.std.specs.Prelude.{map, slice_index_or}
use Rattle.std.proofs.lemmas.Bool.{cases_eq, cases_lt, false_from_ne_true, ne_eqb}
use Rattle.std.proofs.lemmas.Grind.{get_or-set_at}
use Rattle.std.proofs.Common.{eqb-true, eq-eqb}
use Rattle.std.specs.Cmp.{IsEquivalence}
use Rattle.std.proofs.lemmas.List.{ext_get_or, get_or-map, get_or-set_other, get_or_past, length-map, length-set}
use Rattle.std.proofs.lemmas.Map.Views.{list_any-from_Contains, Contains-from_any}
use Rattle.std.proofs.Math.Path.{fun_ext}

-- how many of a log's batches came by a feed
abbrev count_of_feed : List Entry → ℕ → ℕ
count_of_feed log feed = length (of_feed feed log)

length-mark_of : (log : List Entry) → length (mark_of log) ≡ FEEDS
length-mark_of log = length-map (numbers_below FEEDS) (count_of_feed log) ∙ length-numbers_below FEEDS

-- what the mark of a log has for a feed
pub marked-mark_of : (log : List Entry) (feed : ℕ) → feed < FEEDS → marked (mark_of log) feed ≡ length (of_feed feed log)
marked-mark_of log feed lt =
    get_or-map (count_of_feed log) (numbers_below FEEDS) feed 0 0 (omega (arith, length-numbers_below FEEDS)) ∙ ap (count_of_feed log) (get_or-numbers_below FEEDS feed lt)

-- a beginning of a log has no more batches of a feed
pub fewer_of_feed : (feed : ℕ) (xs ys : List Entry) → IsPrefix xs ys → length (of_feed feed xs) ≤ length (of_feed feed ys)
fewer_of_feed feed xs ys p =
    let test : Entry → Bool = λ e. e.feed == feed in
    let parts : of_feed feed ys ≡ of_feed feed xs ++ of_feed feed p.0 = ap (of_feed feed) (sym p.1) ∙ filter-append test xs p.0 in
    omega (arith, ap (length {A = Entry}) parts, length-append (of_feed feed xs) (of_feed feed p.0))

-- a list that goes on is not that list
no_rest : {A : Type 0} (xs : List A) (y : A) (ys : List A) → xs ≡ xs ++ y ∷ ys → ⊥
no_rest xs y ys e = omega (arith, ap length e, length-append xs (y ∷ ys))

-- lists that go on from each other do not
no_turn : {A : Type 0} (xs ys rest more : List A) (y z : A) → ys ≡ xs ++ y ∷ rest → xs ≡ ys ++ z ∷ more → ⊥
no_turn xs ys rest more y z p q =
    omega (arith, ap length p, ap length q, length-append xs (y ∷ rest), length-append ys (z ∷ more))

pub before_itself : (a : Past) → IsBefore a a
before_itself a = (refl, inl (record { base = refl; marks = refl; log = prefix_self a.log }))

-- a batch more
pub before_longer : (p : Past) (e : Entry) → IsBefore p (longer p e)
before_longer p e = (refl, inl (record { base = refl; marks = refl; log = prefix_more p.log (e ∷ []) }))

-- a rebase
pub before_rebased : (p : Past) → IsBefore p (rebased p)
before_rebased p = (
  refl,
  inr (record {
    mark = mark_of p.log;
    later = [];
    marks = refl;
    log = λ feed lt. omega (arith, marked-mark_of p.log feed lt);
  }),
)

in_epoch_onwards : (a b c : Past) → IsBeforeInEpoch a b → IsBeforeInEpoch b c → IsBeforeInEpoch a c
in_epoch_onwards a b c p q = record {
  base = q.base ∙ p.base;
  marks = q.marks ∙ p.marks;
  log = prefix_trans a.log b.log c.log p.log q.log;
}

then_ended : (a b c : Past) → IsBeforeInEpoch a b → IsOfEndedEpoch b c → IsOfEndedEpoch a c
then_ended a b c p q = record {
  mark = q.mark;
  later = q.later;
  marks = q.marks ∙ ap (λ l. l ++ q.mark ∷ q.later) p.marks;
  log = λ feed lt. le_trans (fewer_of_feed feed a.log b.log p.log) (q.log feed lt);
}

ended_then : (a b c : Past) → IsOfEndedEpoch a b → IsBeforeInEpoch b c → IsOfEndedEpoch a c
ended_then a b c p q = record { mark = p.mark; later = p.later; marks = q.marks ∙ p.marks; log = p.log }

ended_onwards : (a b c : Past) → IsOfEndedEpoch a b → IsOfEndedEpoch b c → IsOfEndedEpoch a c
ended_onwards a b c p q = record {
  mark = p.mark;
  later = p.later ++ q.mark ∷ q.later;
  marks = q.marks ∙ ap (λ l. l ++ q.mark ∷ q.later) p.marks ∙ append_assoc a.marks (p.mark ∷ p.later) (q.mark ∷ q.later);
  log = p.log;
}

pub before_onwards : (a b c : Past) → IsBefore a b → IsBefore b c → IsBefore a c
before_onwards a b c (m, inl p) (n, inl q) = (n ∙ m, inl (in_epoch_onwards a b c p q))
before_onwards a b c (m, inl p) (n, inr q) = (n ∙ m, inr (then_ended a b c p q))
before_onwards a b c (m, inr p) (n, inl q) = (n ∙ m, inr (ended_then a b c p q))
before_onwards a b c (m, inr p) (n, inr q) = (n ∙ m, inr (ended_onwards a b c p q))

pub same_past : (a b : Past) → b.vertex_count ≡ a.vertex_count → b.base ≡ a.base → b.marks ≡ a.marks → a.log ≡ b.log → a ≡ b
same_past a b counts bases marks logs = λ i. record {
  vertex_count = sym counts i;
  base = sym bases i;
  marks = sym marks i;
  log = logs i;
}

pub before_one : (a b : Past) → IsBefore a b → IsBefore b a → a ≡ b
before_one a b (m, inl p) (n, inl q) =
    same_past a b m p.base p.marks (prefix_whole a.log b.log p.log (prefix_length b.log a.log q.log))
before_one a b (m, inl p) (n, inr q) = absurd (no_rest b.marks q.mark q.later (p.marks ∙ q.marks))
before_one a b (m, inr p) (n, inl q) = absurd (no_rest a.marks p.mark p.later (q.marks ∙ p.marks))
before_one a b (m, inr p) (n, inr q) = absurd (no_turn a.marks b.marks p.later q.later p.mark q.mark p.marks q.marks)

pub pasts_are_in_order : PastsAreInOrder
pasts_are_in_order = record { itself = before_itself; onwards = before_onwards; one = before_one }

pub publications_go_on : PublicationsGoOn
publications_go_on = record { batch = before_longer; rebase = before_rebased }

-- ---- a rebase

both_ways : (a b : Bool) → (a ≡ true → b ≡ true) → (b ≡ true → a ≡ true) → a ≡ b
both_ways true b to from = sym (to refl)
both_ways false true to from = from refl
both_ways false false to from = refl

nat_equivalence : IsEquivalence {K = ℕ} (λ x y. x == y)
nat_equivalence = record {
  refl = λ x. eq-eqb x x refl;
  symm = λ x y. both_ways (x == y) (y == x) (λ t. eq-eqb y x (sym (eqb-true x y t))) (λ t. eq-eqb x y (sym (eqb-true y x t)));
  congr = λ x y z t. ap (λ w. w == z) (eqb-true x y t);
}

-- a list of something of each vertex
at_vertex : {X : Type 0} (f : ℕ → X) (n v : ℕ) (d : X) → v < n → slice_index_or (map f (numbers_below n)) v d ≡ f v
at_vertex f n v d lt =
    get_or-map f (numbers_below n) v 0 d (omega (arith, length-numbers_below n)) ∙ ap f (get_or-numbers_below n v lt)

no_vertex : {X : Type 0} (f : ℕ → X) (n v : ℕ) (d : X) → n ≤ v → slice_index_or (map f (numbers_below n)) v d ≡ d
no_vertex f n v d le = get_or_past (map f (numbers_below n)) v d (omega (arith, length-map (numbers_below n) f, length-numbers_below n))

-- a pair is an edge where the one is in the other's list
in_list : (g : Graph) → IsGraph g → (u v : ℕ) → list_any (λ w. v == w) (slice_index_or (map (neighbours g) (numbers_below g.vertex_count)) u []) ≡ g.has_edge u v
in_list g is u v = elim (cases_lt u g.vertex_count) [
  | inl lt ↦
      ap (list_any (λ w. v == w)) (at_vertex (neighbours g) g.vertex_count u [] lt)
      ∙ both_ways (list_any (λ w. v == w) (neighbours g u)) (g.has_edge u v)
      (λ t. ((Contains-neighbours g u v).0 (Contains-from_any (λ x y t. eqb-true x y t) v (neighbours g u) t)).2)
      (λ e. list_any-from_Contains nat_equivalence v (neighbours g u) ((Contains-neighbours g u v).1 (lt, (is u v e).1, e)))
  | inr out ↦
      ap (list_any (λ w. v == w)) (no_vertex (neighbours g) g.vertex_count u [] out)
      ∙ sym (false_from_ne_true (g.has_edge u v) (λ e. omega (arith, (is u v e).0)))
]

pub graph_of-rebased : (p : Past) → IsPast p → graph_of (rebased p) ≡ graph_of p
graph_of-rebased p is =
    let g : Graph = graph_of p in
    let n : g.vertex_count ≡ p.vertex_count = vertex_count-graph_of p in
    let edges : (u v : ℕ) → list_any (λ w. v == w) (slice_index_or (map (neighbours g) (numbers_below p.vertex_count)) u []) ≡ g.has_edge u v =
    λ u v. subst (λ m. list_any (λ w. v == w) (slice_index_or (map (neighbours g) (numbers_below m)) u []) ≡ g.has_edge u v) n (in_list g (IsGraph-graph_of p is) u v) in
    λ i. record { vertex_count = sym n i; has_edge = fun_ext (λ u. fun_ext (λ v. edges u v)) i }

pub home_of-rebased : (p : Past) (v : ℕ) → IsPast p → home_of (rebased p) v ≡ home_of p v
home_of-rebased p v is = elim (cases_lt v p.vertex_count) [
  | inl lt ↦ at_vertex (home_of p) p.vertex_count v Block lt
  | inr out ↦ no_vertex (home_of p) p.vertex_count v Block out ∙ sym (home_of-outside p v is out)
]

pub IsPast-rebased : (p : Past) → IsPast p → IsPast (rebased p)
IsPast-rebased p is = record {
  base = subst IsGraph (sym (graph_of-rebased p is)) (IsGraph-graph_of p is);
  homes = λ v out. no_vertex (home_of p) p.vertex_count v Block out;
  log = tt;
}

pub rebase_changes_nothing : RebaseChangesNothing
rebase_changes_nothing = record { graph = graph_of-rebased; homes = home_of-rebased; past = IsPast-rebased }

-- ---- a branch: of the same base as a rebase, which has no batch either

pub graph_of-branched : (p : Past) → IsPast p → graph_of (branched p) ≡ graph_of p
graph_of-branched = graph_of-rebased

pub home_of-branched : (p : Past) (v : ℕ) → IsPast p → home_of (branched p) v ≡ home_of p v
home_of-branched = home_of-rebased

pub IsPast-branched : (p : Past) → IsPast p → IsPast (branched p)
IsPast-branched p is = let r = IsPast-rebased p is in record { base = r.base; homes = r.homes; log = tt }

pub branch_begins_anew : BranchBeginsAnew
branch_begins_anew = record {
  graph = graph_of-branched;
  homes = home_of-branched;
  past = IsPast-branched;
  epoch = λ p. refl;
  number = λ p. refl;
}

-- ---- the batches since the marks

pub ended_batches-push : (marks : List (List ℕ)) (mark : List ℕ) (feed : ℕ) → ended_batches (marks ++ mark ∷ []) feed ≡ ended_batches marks feed + marked mark feed
ended_batches-push [] mark feed = omega arith
ended_batches-push (first ∷ marks) mark feed = omega (arith, ended_batches-push marks mark feed)

pub length-of_feed-append : (feed : ℕ) (xs ys : List Entry) → length (of_feed feed (xs ++ ys)) ≡ length (of_feed feed xs) + length (of_feed feed ys)
length-of_feed-append feed xs ys =
    let test : Entry → Bool = λ e. e.feed == feed in
    omega (arith, ap (length {A = Entry}) (filter-append test xs ys), length-append (of_feed feed xs) (of_feed feed ys))

-- at first nothing has ended
pub since_opening : (all : List Entry) → AreSince [] all all
since_opening all = record { ended = []; whole = refl; counted = λ feed lt. refl }

-- more that comes last has come since
pub since_more : (marks : List (List ℕ)) (all since more : List Entry) → AreSince marks all since → AreSince marks (all ++ more) (since ++ more)
since_more marks all since more s = record {
  ended = s.ended;
  whole = sym (append_assoc s.ended since more) ∙ ap (λ l. l ++ more) s.whole;
  counted = s.counted;
}

-- the batches of a log that ends are marked
pub since_rebase : (marks : List (List ℕ)) (all log rest : List Entry) → AreSince marks all (log ++ rest) → AreSince (marks ++ mark_of log ∷ []) all rest
since_rebase marks all log rest s = record {
  ended = s.ended ++ log;
  whole = append_assoc s.ended log rest ∙ s.whole;
  counted = λ feed lt. omega (arith, length-of_feed-append feed s.ended log, s.counted feed lt, ended_batches-push marks (mark_of log) feed, marked-mark_of log feed lt);
}

-- ---- the mark of a longer log

pub length-of_feed-le : (feed : ℕ) (log : List Entry) → length (of_feed feed log) ≤ length log
length-of_feed-le feed [] = omega arith
length-of_feed-le feed (e ∷ log) =
    elim (e.feed == feed) as (λ b. length (cond b (e ∷ of_feed feed log) (of_feed feed log)) ≤ length (e ∷ log)) [ true ↦ omega (arith, length-of_feed-le feed log) | false ↦ omega (arith, length-of_feed-le feed log) ]

-- a batch of another feed is not counted
other_of_feed : (k : ℕ) (e : Entry) → k ≢ e.feed → length (of_feed k (e ∷ [])) ≡ 0
other_of_feed k e other = rw (ne_eqb e.feed k (λ is. other (sym is))) refl

-- and one of the feed is
own_of_feed : (k : ℕ) (e : Entry) → k ≡ e.feed → length (of_feed k (e ∷ [])) ≡ 1
own_of_feed k e is = rw (eq-eqb e.feed k (sym is)) refl

-- one batch more is counted for its feed
pub mark_of-push : (log : List Entry) (e : Entry) → e.feed < FEEDS → mark_of (log ++ e ∷ []) ≡ slice_set (mark_of log) e.feed (marked (mark_of log) e.feed + 1)
mark_of-push log e lt =
    let more : ℕ = marked (mark_of log) e.feed + 1 in
    let long : length (mark_of (log ++ e ∷ [])) ≡ length (slice_set (mark_of log) e.feed more) =
    length-mark_of (log ++ e ∷ []) ∙ sym (length-mark_of log) ∙ sym (length-set (mark_of log) e.feed more) in
    ext_get_or 0 (mark_of (log ++ e ∷ [])) (slice_set (mark_of log) e.feed more) long (λ k within.
    let few : k < FEEDS = omega (arith, length-mark_of (log ++ e ∷ [])) in
    let now = marked-mark_of (log ++ e ∷ []) k few in
    let before = marked-mark_of log k few in
    let both = length-of_feed-append k log (e ∷ []) in
    elim (cases_eq k e.feed) [
      | inl is ↦ (
          let mine = own_of_feed k e is in
          let there = get_or-set_at (mark_of log) e.feed k more 0 is (omega (arith, length-mark_of log)) in
          omega (arith, now, both, before, mine, there, ap (marked (mark_of log)) is))
      | inr other ↦ (
          let none = other_of_feed k e other in
          let there = get_or-set_other (mark_of log) e.feed k more 0 other in
          omega (arith, now, both, before, none, there))
    ])
