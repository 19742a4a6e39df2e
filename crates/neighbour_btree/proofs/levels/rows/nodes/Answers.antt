use Rattle.std.proofs.Common.{◌≡◌, ◌+◌, ◌-◌, ◌*◌, List, [], ◌∷◌, ◌++◌, length, take, drop, ap, sym, subst, ◌∙◌, All, arith}
use Rattle.std.proofs.lemmas.List.{length_push}
use Rattle.std.proofs.lemmas.List.Elements.{All-push}
use Rattle.neighbour_btree.specs.Node.{Node, IsChild}
use Rattle.neighbour_btree.proofs.RowLists.{front_set, last_part, next_node, last_node}
use Rattle.neighbour_btree.proofs.levels.rows.nodes.Goals as goal

pub node_over-requires-clause-inner : goal.node_over-requires-clause-inner
node_over-requires-clause-inner g c =
    let i = c.loop-children.invariant in
    let ns = c.loop-children.children.items in
    let s = front_set ns c.loop-children.row.items c.args.children.items i.words c.requires.set in
    (last_part g.C.Level.least (length ns - 32) ns c.split_off.new.self.items c.in_ok-part.part.items i.below s (omega (arith, i.enough)) (c.in_ok-part.ensures.items ∙ ap (λ n. take n ns) (omega (arith, c.loop-children.children.ok))) (c.in_ok-part.ensures.tail ∙ ap (λ n. drop n ns) (omega (arith, c.loop-children.children.ok)))).0

pub loop-children-preserved : goal.loop-children-preserved
loop-children-preserved g c =
    let i = c.loop-children.invariant in
    let ns = c.loop-children.children.items in
    let s = front_set ns c.loop-children.row.items c.args.children.items i.words c.requires.set in
    let m = last_part g.C.Level.least (length ns - 32) ns c.split_off.new.self.items c.in_ok-part.part.items i.below s (omega (arith, i.enough)) (c.in_ok-part.ensures.items ∙ ap (λ n. take n ns) (omega (arith, c.loop-children.children.ok))) (c.in_ok-part.ensures.tail ∙ ap (λ n. drop n ns) (omega (arith, c.loop-children.children.ok))) in
    let node = c.in_ok-node.node in
    let list : c.push.new.self.items ≡ c.loop-children.row.items ++ node ∷ [] = c.in_ok-push.ensures.items in
    let P : List Node → Type 0 = λ l. All (IsChild (16 * g.C.Level.least)) l in
    let long : length c.push.new.self.items ≡ length c.loop-children.row.items + 1 = ap length list ∙ length_push c.loop-children.row.items node in
    let size = c.in_ok-part.ensures.len in
    record {
      words = next_node ns c.split_off.new.self.items c.in_ok-part.part.items c.loop-children.row.items c.push.new.self.items c.args.children.items node i.words m.1.1 list c.in_ok-node.ensures.node;
      below = m.1.0;
      children = subst P (sym list) (All-push (IsChild (16 * g.C.Level.least)) c.loop-children.row.items node i.children c.in_ok-node.ensures.child);
      enough = omega (arith, size, c.loop-children-test.true, c.split_off.new.self.ok, c.loop-children.children.ok);
      counted = omega (arith, size, long, i.counted, c.split_off.new.self.ok, c.loop-children.children.ok, c.loop-children-test.true);
    }

pub returns : goal.returns
returns g c =
    let i = c.loop-children.invariant in
    last_node (16 * g.C.Level.least) c.loop-children.children.items c.loop-children.row.items c.push-2.new.self.items c.reverse.new.self.items c.args.children.items c.in_ok-node-2.node i.words i.children c.in_ok-node-2.ensures.child c.in_ok-push-2.ensures.items c.in_ok-node-2.ensures.node c.reverse.ensures.items i.counted i.enough (omega (arith, c.loop-children-test.false, c.loop-children.children.ok))

pub node_over-requires-2-clause-inner : goal.node_over-requires-2-clause-inner
node_over-requires-2-clause-inner g c =
    let i = c.loop-children.invariant in
    record {
      some = omega (arith, i.enough);
      most = omega (arith, c.loop-children-test.false, c.loop-children.children.ok);
      children = i.below;
      set = front_set c.loop-children.children.items c.loop-children.row.items c.args.children.items i.words c.requires.set;
    }
