use Rattle.std.proofs.Common.{◌≡◌, ◌+◌, [], ◌∷◌, ◌++◌, length, ap, sym, subst, ◌∙◌, arith}
use Rattle.std.proofs.lemmas.List.{length_push}
use Rattle.std.proofs.lemmas.List.Elements.{All-push, All-same}
use Rattle.neighbour_btree.specs.Node.{words_under, leaf_of, IsLeaf, IsChild}
use Rattle.neighbour_btree.proofs.LeafWords.{IsLeaf-take}
use Rattle.neighbour_btree.proofs.RowLists.{rest_set, next_leaf}
use Rattle.neighbour_btree.proofs.levels.rows.leaves.Goals as goal

pub new-requires : goal.new-requires
new-requires c =
    let i = c.loop-rest.invariant in
    let s = rest_set c.loop-rest.row.items c.loop-rest.rest.now c.args.words.now i.words c.requires.set in
    IsLeaf-take 48 c.loop-rest.rest.now c.in_ok-from_slice.field-0.items s (omega arith) (omega (arith, c.loop-rest-test.true)) (c.in_ok-from_slice.ensures.items ∙ c.split_at.ensures.front)

pub loop-rest-preserved : goal.loop-rest-preserved
loop-rest-preserved c =
    let i = c.loop-rest.invariant in
    let leaf = c.of.result in
    let list : c.push.new.self.items ≡ c.loop-rest.row.items ++ leaf ∷ [] = c.in_ok-push.ensures.items in
    let part = c.in_ok-from_slice.ensures.items ∙ c.split_at.ensures.front in
    let made : leaf ≡ leaf_of c.in_ok-from_slice.field-0.items = c.of.ensures ∙ c.in_ok-leaf.ensures in
    let size : length c.in_ok-from_slice.field-0.items ≡ 48 = ap length c.in_ok-from_slice.ensures.items ∙ c.split_at.ensures.front_len in
    let whole : IsChild 16 (leaf_of c.in_ok-from_slice.field-0.items) = record { fewest = omega arith; most = omega arith; words = omega arith; some = omega arith } in
    let child : IsChild 16 leaf = subst (IsChild 16) (sym made) whole in
    let long : length c.push.new.self.items ≡ length c.loop-rest.row.items + 1 = ap length list ∙ length_push c.loop-rest.row.items leaf in
    record {
      words = ap (λ l. words_under c.push.new.self.items ++ l) c.split_at.ensures.back ∙ next_leaf c.loop-rest.row.items c.push.new.self.items leaf c.loop-rest.rest.now c.in_ok-from_slice.field-0.items c.args.words.now i.words part made list;
      children = All-same (IsChild 16) c.push.new.self.items (c.loop-rest.row.items ++ leaf ∷ []) list (All-push (IsChild 16) c.loop-rest.row.items leaf i.children child);
      enough = omega (arith, c.split_at.ensures.back_len, c.loop-rest-test.true);
      counted = omega (arith, c.split_at.ensures.back_len, long, i.counted);
    }

pub new-requires-2 : goal.new-requires-2
new-requires-2 c =
    let i = c.loop-rest.invariant in
    let s = rest_set c.loop-rest.row.items c.loop-rest.rest.now c.args.words.now i.words c.requires.set in
    subst IsLeaf (sym c.in_ok-from_slice-2.ensures.items) (record { set = s; most = omega (arith, c.loop-rest-test.false) })
