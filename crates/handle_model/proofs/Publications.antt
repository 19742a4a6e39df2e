-- A publication: a taking, the ranges in any order, and the end.
use Rattle.std.proofs.Common.{◌≡◌, ◌==◌, ℕ, Bool, true, false, not, ◌&&◌, ◌||◌, if◌then◌else◌, Option, Some, None, List, [], ◌∷◌, ◌++◌, length, map, drop, refl, sym, ap, subst, ◌∙◌, append_assoc, append-nil, arith}
use Rattle.std.specs.List.{list_any, list_all}
use Rattle.std.proofs.lemmas.Bool.{and_from, and_parts, lt-ltb, or_from, or_left, or_right, eq-eqb, eqb-true, not_from_false, false_from_ne_true, true≢false}
use Rattle.std.proofs.lemmas.List.Folds.{list_any-append}
use Rattle.past_model.specs.declared.edit.Edit.{Edit}
use Rattle.past_model.specs.declared.entry.Entry.{Entry}
use Rattle.past_model.specs.Past.{Past, longer}
use Rattle.store_model.specs.declared.event.Event.{Event}
use Rattle.past_model.specs.Epochs.{rebased}
use Rattle.store_model.specs.declared.event.Event.TheVariants.{Take, Part, Publish}
use Rattle.store_model.specs.declared.reply.Reply.TheVariants.{Done}
use Rattle.store_model.specs.Core.{Core, Holding, Run, range_of, is_done}
use Rattle.store_model.specs.Events.{Steps, Ran}
use Rattle.handle_model.specs.Sights.{new_holding}
use Rattle.handle_model.specs.Calls.{AreRangesOf, are_distinct, all_done, publication}
use Rattle.handle_model.specs.Laws.{PublicationsAre, RebasesAre, RangesAre, TakingsAre}

-- a store with a batch of which these ranges are done
abbrev at_work : Past → List Entry → Entry → List ℕ → List (Option Run) → Core
at_work past queue e done runs = record { past = past; queue = queue; held = Some (record { entry = e; done = done }); runs = runs }

-- each of the ranges is open in its turn
abbrev AreOpen : List Edit → List ℕ → List ℕ → Type 0
AreOpen batch done [] = Unit {0}
AreOpen batch done (r ∷ ranges) =
    ((list_any (λ e. range_of e == r) batch && not (is_done done r)) ≡ true) × AreOpen batch (done ++ r ∷ []) ranges

not-false : (b : Bool) → not b ≡ true → b ≡ false
not-false true h = sym h
not-false false h = refl

not_again : (r q : ℕ) (ranges : List ℕ) → (not (is_done ranges r) && are_distinct ranges) ≡ true → is_done ranges q ≡ true → (r == q) ≡ false
not_again r q ranges distinct there =
    false_from_ne_true (r == q) (λ same. true≢false
    (sym (subst (λ n. is_done ranges n ≡ true) (sym (eqb-true r q same)) there)
    ∙ not-false (is_done ranges r) (and_parts (not (is_done ranges r)) (are_distinct ranges) distinct).0))

are_open : (batch : List Edit) (done ranges : List ℕ) → are_distinct ranges ≡ true
    → ((r : ℕ) → is_done ranges r ≡ true → list_any (λ e. range_of e == r) batch ≡ true)
    → ((r : ℕ) → is_done ranges r ≡ true → is_done done r ≡ false) → AreOpen batch done ranges
are_open batch done [] distinct edited fresh = tt
are_open batch done (r ∷ ranges) distinct edited fresh =
    let here : is_done (r ∷ ranges) r ≡ true = or_left (r == r) (is_done ranges r) (eq-eqb r r refl) in (
      and_from (list_any (λ e. range_of e == r) batch) (not (is_done done r)) (edited r here) (not_from_false (is_done done r) (fresh r here)),
      are_open batch (done ++ r ∷ []) ranges (and_parts (not (is_done ranges r)) (are_distinct ranges) distinct).1
          (λ q there. edited q (or_right (r == q) (is_done ranges q) there))
          (λ q there. list_any-append (λ x. x == q) done (r ∷ [])
          ∙ or_from (is_done done q) ((r == q) || false) (fresh q (or_right (r == q) (is_done ranges q) there))
          (or_from (r == q) false (not_again r q ranges distinct there) refl)),
    )

-- the ranges are edited one after another, and what comes then comes
parts_ran : (past : Past) (queue : List Entry) (e : Entry) (runs : List (Option Run)) (done ranges : List ℕ) (events : List Event) (t : Core)
    → AreOpen e.batch done ranges → Ran (at_work past queue e (done ++ ranges) runs) events (all_done events) t
    → Ran (at_work past queue e done runs) (map Part ranges ++ events) (all_done (map Part ranges ++ events)) t
parts_ran past queue e runs done [] events t open_now onwards = subst (λ l. Ran (at_work past queue e l runs) events (all_done events) t) (append-nil done) onwards
parts_ran past queue e runs done (r ∷ ranges) events t (now, later) onwards = (
  at_work past queue e (done ++ r ∷ []) runs,
  (now, refl, refl),
  parts_ran past queue e runs (done ++ r ∷ []) ranges events t later
      (subst (λ l. Ran (at_work past queue e l runs) events (all_done events) t) (sym (append_assoc done (r ∷ []) ranges)) onwards),
)

whole : (batch : List Edit) (ranges : List ℕ) → ((r : ℕ) → list_any (λ e. range_of e == r) batch ≡ true → is_done ranges r ≡ true)
    → list_all (λ e. is_done ranges (range_of e)) batch ≡ true
whole [] ranges edited = refl
whole (e ∷ es) ranges edited =
    and_from (is_done ranges (range_of e)) (list_all (λ x. is_done ranges (range_of x)) es)
    (edited (range_of e) (or_left (range_of e == range_of e) (list_any (λ x. range_of x == range_of e) es) (eq-eqb (range_of e) (range_of e) refl)))
    (whole es ranges (λ r there. edited r (or_right (range_of e == r) (list_any (λ x. range_of x == r) es) there)))

-- a batch of which nothing is done is edited and published
edited_and_published : (past : Past) (queue : List Entry) (e : Entry) (runs : List (Option Run)) (ranges : List ℕ) → AreRangesOf e.batch ranges
    → let t : Core = record { past = longer past e; queue = queue; held = None; runs = runs } in
    let events : List Event = map Part ranges ++ Publish ∷ [] in
    Ran (at_work past queue e [] runs) events (all_done events) t
edited_and_published past queue e runs ranges are =
    let t : Core = record { past = longer past e; queue = queue; held = None; runs = runs } in
    parts_ran past queue e runs [] ranges (Publish ∷ []) t
    (are_open e.batch [] ranges are.distinct (λ r there. sym (are.edited r) ∙ there) (λ r there. refl))
    (t, (whole e.batch ranges (λ r there. are.edited r ∙ there), refl, refl), refl)

-- a store is what it has
core_is : (s : Core) (past : Past) (queue : List Entry) (held : Option Holding) → s.past ≡ past → s.queue ≡ queue → s.held ≡ held
    → (record { past = past; queue = queue; held = held; runs = s.runs }) ≡ s
core_is s past queue held of waits holds =
    sym (subst (λ p. s ≡ record { past = p; queue = queue; held = held; runs = s.runs }) of
    (subst (λ q. s ≡ record { past = s.past; queue = q; held = held; runs = s.runs }) waits
    (subst (λ h. s ≡ record { past = s.past; queue = s.queue; held = h; runs = s.runs }) holds refl)))

pub publications_are : PublicationsAre
publications_are past None e s ranges sees (rest, next) are =
    let t : Core = record { past = longer past e; queue = rest; held = None; runs = s.runs } in (
      t,
      subst (λ x. Ran x (publication None ranges) (all_done (publication None ranges)) t) (core_is s past (e ∷ rest) None sees.published next sees.holds)
          (at_work past rest e [] s.runs, (lt-ltb 0 (length (e ∷ rest)) (omega arith), refl, refl), edited_and_published past rest e s.runs ranges are),
      record { published = refl; holds = refl },
      ap (drop 1) (sym next),
    )
publications_are past (Some held) e s ranges sees next are =
    let t : Core = record { past = longer past e; queue = s.queue; held = None; runs = s.runs } in (
      t,
      subst (λ x. Ran x (publication (Some held) ranges) (all_done (publication (Some held) ranges)) t)
          (core_is s past s.queue (Some (new_holding e)) sees.published refl (sees.holds ∙ ap (λ x. Some (new_holding x)) next))
          (edited_and_published past s.queue e s.runs ranges are),
      record { published = refl; holds = refl },
      refl,
    )

-- ---- each batch has a list of its ranges

-- a range that is not there yet
abbrev added : ℕ → List ℕ → List ℕ
added r ranges = if is_done ranges r then ranges else r ∷ ranges

found : (r q : ℕ) (ranges : List ℕ) (same : Bool) → (r == q) ≡ same → is_done ranges r ≡ true → is_done ranges q ≡ (same || is_done ranges q)
found r q ranges true same there = subst (λ n. is_done ranges n ≡ true) (eqb-true r q same) there
found r q ranges false same there = refl

added_is : (r q : ℕ) (ranges : List ℕ) (there : Bool) → is_done ranges r ≡ there → is_done (if there then ranges else r ∷ ranges) q ≡ ((r == q) || is_done ranges q)
added_is r q ranges true there = found r q ranges (r == q) refl there
added_is r q ranges false there = refl

still_distinct : (r : ℕ) (ranges : List ℕ) (there : Bool) → is_done ranges r ≡ there → are_distinct ranges ≡ true → are_distinct (if there then ranges else r ∷ ranges) ≡ true
still_distinct r ranges true there distinct = distinct
still_distinct r ranges false there distinct = and_from (not (is_done ranges r)) (are_distinct ranges) (not_from_false (is_done ranges r) there) distinct

pub ranges_are : RangesAre
ranges_are [] = ([], record { distinct = refl; edited = λ r. refl })
ranges_are (e ∷ es) =
    let (ranges, are) = ranges_are es in (
      added (range_of e) ranges,
      record {
        distinct = still_distinct (range_of e) ranges (is_done ranges (range_of e)) refl are.distinct;
        edited = λ r. added_is (range_of e) r ranges (is_done ranges (range_of e)) refl ∙ ap (λ b. (range_of e == r) || b) (are.edited r);
      },
    )

pub takings_are : TakingsAre
takings_are past None e s sees (rest, next) =
    let t : Core = record { past = past; queue = rest; held = Some (new_holding e); runs = s.runs } in (
      t,
      (
        t,
        subst (λ x. Steps x Take Done t) (core_is s past (e ∷ rest) None sees.published next sees.holds) (lt-ltb 0 (length (e ∷ rest)) (omega arith), refl, refl),
        refl,
      ),
      record { published = refl; holds = refl },
      ap (drop 1) (sym next),
    )
takings_are past (Some h) e s sees is =
    (s, refl, record { published = sees.published; holds = sees.holds ∙ ap (λ x. Some (new_holding x)) is }, refl)

pub rebases_are : RebasesAre
rebases_are past held s sees = (
  record s { past = rebased s.past },
  (refl, refl, refl),
  record { published = ap rebased sees.published; holds = sees.holds },
  refl,
)
