use Rattle.std.proofs.Common.{◌≡◌, ℕ, ◌+◌, ◌<◌, List, [], ◌∷◌, ◌++◌, length, sym, ap, ◌∙◌, arith}
use Rattle.past_model.specs.declared.limits.TheConstants.{MOST_VERTICES}
use Rattle.past_model.specs.declared.home.Home.{Home}
use Rattle.word_sets.proofs.Within.{IsWithin-length}
use Rattle.shards.specs.Arrays.{list_of, first_home, rows_from, homes_from}
use Rattle.shards.specs.Lists.{rows_of}
use Rattle.shards.proofs.ArrayLemmas.{length-from, one_from}
use Rattle.shards.proofs.arrays.page_of_lists.Goals as goal

pub overflow_cast-words : goal.overflow_cast-words
overflow_cast-words c =
    let v : ℕ = c.args.first + c.loop-place.place in
    let there : v + 1 < length c.args.lists.starts.now = (let test = c.loop-place-test.true in let inside = c.requires.inside in omega arith) in
    omega (arith, IsWithin-length 0 MOST_VERTICES (list_of c.args.lists.starts.now c.args.lists.targets.now v) (c.requires.lists.sets v there))

pub push-requires-clause-room : goal.push-requires-clause-room
push-requires-clause-room c =
    let long = ap (length {A = List ℕ}) c.loop-place.invariant.rows in
    let size = length-from (list_of c.args.lists.starts.now c.args.lists.targets.now) c.args.first c.loop-place.place in
    let test = c.loop-place-test.true in
    let few = c.requires.few in
    omega (arith, long, size)

pub loop-place-preserved : goal.loop-place-preserved
loop-place-preserved c =
    let starts : List ℕ = c.args.lists.starts.now in
    let targets : List ℕ = c.args.lists.targets.now in
    let first : ℕ = c.args.first in
    let place : ℕ = c.loop-place.place in
    let row : List ℕ = list_of starts targets (first + place) in
    let pushed = c.in_ok-push.ensures.pushed in
    record {
      kept = pushed.kept;
      rows = pushed.rows ∙ ap (λ (l : List (List ℕ)). l ++ row ∷ []) c.loop-place.invariant.rows ∙ sym (one_from (list_of starts targets) first place);
      homes =
          pushed.homes
          ∙ ap (λ (l : List Home). l ++ c.after.result ∷ []) c.loop-place.invariant.homes
          ∙ ap (λ (home : Home). homes_from starts targets first place ++ home ∷ []) c.after.ensures
          ∙ sym (one_from (λ v. first_home (list_of starts targets v)) first place);
    }
