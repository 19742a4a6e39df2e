-- Readers come into the pool and go, and all stay of one store.
use Rattle.std.proofs.Common.{◌≡◌, ◌≢◌, ℕ, zero, suc, true, false, List, [], ◌∷◌, ◌++◌, map, set, refl, sym, ap, ◌∙◌, subst, inl, inr, ⊎_elim}
use Rattle.std.specs.List.{AllByRecursion}
use Rattle.std.proofs.lemmas.List.{map-append}
use mathlib.Core.Option.{some, some-injective, some-ne-none}
use lib.ListN.{get_elem?}
use Rattle.crossbeam_queue.specs.Fifo.{Pushes, Pops, Forks}
use Rattle.atomic_table.proofs.Lists.{at_set, at_snoc}
use Rattle.history.specs.Moment.{Moment, OneStore}
use Rattle.history.proofs.Moments.{one_store_back, one_store_onwards}
use Rattle.store.specs.declared.board.board_view.BoardView.{BoardView}
use Rattle.store.specs.declared.board.member.Member.{Member}
use Rattle.store.specs.BoardViews.{Knows}
use Rattle.store.specs.Pool.{member, maker, IsMember, AreOf, Pools}

alone : (pass : ℕ) (v : Member) → get_elem? (maker ∷ []) pass ≡ some v → (pass ≡ 0) × (v.sole ≡ true)
alone zero v at = (refl, ap (λ (u : Member). u.sole) (sym (some-injective maker v at)))
alone (suc pass) v at = absurd (some-ne-none v (sym at))

-- a pass that is not the sole one is among members
members : (readers : List BoardView) (views : List Member) (pass : ℕ) (v : Member) → Pools readers views → get_elem? views pass ≡ some v → v.sole ≡ false
    → (store : Moment) × AreOf store readers views
members readers views pass v (inl (none, one)) at many =
    let sole = (alone pass v (subst (λ (l : List Member). get_elem? l pass ≡ some v) one at)).1 in
    let both : true ≡ false = sym sole ∙ many in absurd (cc both)
members readers views pass v (inr all) at many = all

-- the sole pass has found nothing yet
only : (readers : List BoardView) (views : List Member) (pass : ℕ) (v : Member) → Pools readers views → get_elem? views pass ≡ some v → v.sole ≡ true
    → (readers ≡ []) × (views ≡ maker ∷ []) × (pass ≡ 0)
only readers views pass v (inl (none, one)) at sole = (none, one, (alone pass v (subst (λ (l : List Member). get_elem? l pass ≡ some v) one at)).0)
only readers views pass v (inr (store, all)) at sole =
    let many = (all.members_are pass v at).0 in
    let both : true ≡ false = sym sole ∙ many in absurd (cc both)

first_member : (store : Moment) (pass : ℕ) → pass ≡ 0 → (j : ℕ) (u : Member) → get_elem? (set (maker ∷ []) pass (member store)) j ≡ some u → IsMember store u
first_member store zero is zero u at = subst (IsMember store) (some-injective (member store) u at) (refl, (refl, refl))
first_member store zero is (suc j) u at = absurd (some-ne-none u (sym at))
first_member store (suc pass) is j u at = absurd cc

knows_from : (store m : Moment) (g : BoardView) → OneStore store m → Knows m g → Knows store g
knows_from store m g one (knows, of) = (knows, one_store_onwards store m g.version one of)

-- what knows of a store of one pass knows of that of another pass of it
pub knows_as : (m of : Moment) (g : BoardView) → OneStore m of → Knows m g → Knows of g
knows_as m of g one knows = knows_from of m g (one_store_back m of one) knows

put_behind : (store : Moment) (readers : List BoardView) (g : BoardView) → AllByRecursion (Knows store) readers → Knows store g → AllByRecursion (Knows store) (readers ++ g ∷ [])
put_behind store [] g all new = (new, tt)
put_behind store (x ∷ xs) g all new = (all.0, put_behind store xs g all.1 new)

members_set : (store : Moment) (views : List Member) (pass : ℕ) (w : Member) → ((j : ℕ) (u : Member) → get_elem? views j ≡ some u → IsMember store u) → IsMember store w
    → (j : ℕ) (u : Member) → get_elem? (set views pass w) j ≡ some u → IsMember store u
members_set store views pass w all new j u at = ⊎_elim
    (λ (is : (j ≡ pass) × (w ≡ u)). subst (IsMember store) is.1 new)
    (λ (is : (j ≢ pass) × (get_elem? views j ≡ some u)). all j u is.1)
    (at_set views pass j w u at)

members_more : (store : Moment) (views : List Member) (w : Member) → ((j : ℕ) (u : Member) → get_elem? views j ≡ some u → IsMember store u) → IsMember store w
    → (j : ℕ) (u : Member) → get_elem? (views ++ w ∷ []) j ≡ some u → IsMember store u
members_more store views w all new j u at = ⊎_elim (all j u) (λ (is : w ≡ u). subst (IsMember store) is new) (at_snoc views w u j at)

module _ {T : Type 0} (glance : T → BoardView) where
  abbrev pub Waits : List T → List Member → Type 0
  Waits readers views = Pools (map glance readers) views

  -- the first reader is put in by the only pass
  pub seeds : (n pass : ℕ) (v : Member) (x : T) → v.sole ≡ true → (glance x).knows ≡ true → Pushes Waits n pass v x (λ w. w ≡ member (glance x).version)
  seeds n pass v x sole knows items views room h at =
      let store : Moment = (glance x).version in
      let one = only (map glance items) views pass v h at sole in (
        member store,
        inr (
          store,
          record {
            readers_are = rw (map-append, one.0) ((knows, (refl, refl)), tt);
            members_are = subst (λ (l : List Member). (j : ℕ) (u : Member) → get_elem? (set l pass (member store)) j ≡ some u → IsMember store u) (sym one.1)
                (first_member store pass one.2);
          },
        ),
        refl,
      )

  pub pushes : (n pass : ℕ) (v : Member) (x : T) → v.sole ≡ false → Knows v.of (glance x) → Pushes Waits n pass v x (λ w. w ≡ v)
  pushes n pass v x many knows items views room h at =
      let all = members (map glance items) views pass v h at many in
      let store : Moment = all.0 in
      let mine = all.1.members_are pass v at in (
        v,
        inr (
          store,
          record {
            readers_are = rw map-append (put_behind store (map glance items) (glance x) all.1.readers_are (knows_from store v.of (glance x) mine.1 knows));
            members_are = members_set store views pass v all.1.members_are mine;
          },
        ),
        refl,
      )

  pub pops : (pass : ℕ) (v : Member) → v.sole ≡ false → Pops Waits pass v (λ x w. (w ≡ v) × Knows v.of (glance x))
  pops pass v many x items views h at =
      let all = members (glance x ∷ map glance items) views pass v h at many in
      let store : Moment = all.0 in
      let mine = all.1.members_are pass v at in (
        v,
        inr (
          store,
          record {
            readers_are = all.1.readers_are.1;
            members_are = members_set store views pass v all.1.members_are mine;
          },
        ),
        (refl, knows_from v.of store (glance x) (one_store_back store v.of mine.1) all.1.readers_are.0),
      )

  pub forks : (pass : ℕ) (v : Member) → v.sole ≡ false → Forks Waits pass v v v
  forks pass v many items views h at =
      let all = members (map glance items) views pass v h at many in
      let store : Moment = all.0 in
      let mine = all.1.members_are pass v at in
      inr (
        store,
        record {
          readers_are = all.1.readers_are;
          members_are = members_more store (set views pass v) v (members_set store views pass v all.1.members_are mine) mine;
        },
      )
