use Rattle.std.proofs.Common.{◌≡◌, ◌++◌, ◌+◌, ◌-◌, get_or, option_map, ap₂, ◌∙◌, arith}
use Rattle.std.proofs.lemmas.List.{get_or_default}
use Rattle.neighbour_btree.specs.Lists.{nothing, replacement}
use Rattle.neighbour_btree.proofs.NodeLists.{right_set, left_set, mends_right, mends_left, packs_nodes}
use Rattle.neighbour_btree.proofs.levels.inner.mended.Goals as goal

pub join-requires-clause-within : goal.join-requires-clause-within
join-requires-clause-within g c =
    let ns = c.args.children.now in
    let next = g.C.Level.node c.node.result.now in
    let is : next ≡ get_or ns (c.args.at + 1) nothing = c.node.ensures.node ∙ c.index-children-at.is ∙ get_or_default ns (c.args.at + 1) c.index-children-at.result nothing (omega (arith, c.if-at-children.true)) in
    right_set ns c.args.at (g.C.Level.node c.args.node) next c.requires.set (omega (arith, c.if-at-children.true)) is

pub returns-then-at-children-clause-mends : goal.returns-then-at-children-clause-mends
returns-then-at-children-clause-mends g c =
    let ns = c.args.children.now in
    let n = g.C.Level.node c.args.node in
    let next = g.C.Level.node c.node.result.now in
    let is : next ≡ get_or ns (c.args.at + 1) nothing = c.node.ensures.node ∙ c.index-children-at.is ∙ get_or_default ns (c.args.at + 1) c.index-children-at.result nothing (omega (arith, c.if-at-children.true)) in
    let p = packs_nodes g.C.Level.node g.C.Level.least (n.size + next.size) (n.words ++ next.words) c.in_ok-first.first c.in_ok-first.second c.in_ok-first.ensures in
    let made : c.in_ok-list-2.list.items ≡ replacement ns c.args.at 2 (g.C.Level.node c.in_ok-first.first) (option_map g.C.Level.node c.in_ok-first.second) = c.in_ok-list-2.ensures ∙ ap₂ (λ a b. replacement ns c.args.at 2 a b) c.adopted.ensures.first c.adopted.ensures.second in
    mends_right g.C.Level.least ns c.in_ok-list-2.list.items c.args.at (n.size + next.size) n next (g.C.Level.node c.in_ok-first.first) (option_map g.C.Level.node c.in_ok-first.second) c.requires.children (omega (arith, c.if-at-children.true)) is (omega (arith, c.node.ensures.child.fewest)) p made

pub join-requires-2-clause-within : goal.join-requires-2-clause-within
join-requires-2-clause-within g c =
    let ns = c.args.children.now in
    let before = g.C.Level.node c.node-2.result.now in
    let is : before ≡ get_or ns (c.args.at - 1) nothing = c.node-2.ensures.node ∙ c.index-children-at-2.is ∙ get_or_default ns (c.args.at - 1) c.index-children-at-2.result nothing (omega (arith, c.requires.within)) in
    left_set ns c.args.at (g.C.Level.node c.args.node) before c.requires.set (omega (arith, c.if-at-children.false, c.requires.enough)) c.requires.within is

pub returns-clause-mends : goal.returns-clause-mends
returns-clause-mends g c =
    let ns = c.args.children.now in
    let n = g.C.Level.node c.args.node in
    let before = g.C.Level.node c.node-2.result.now in
    let is : before ≡ get_or ns (c.args.at - 1) nothing = c.node-2.ensures.node ∙ c.index-children-at-2.is ∙ get_or_default ns (c.args.at - 1) c.index-children-at-2.result nothing (omega (arith, c.requires.within)) in
    let p = packs_nodes g.C.Level.node g.C.Level.least (before.size + n.size) (before.words ++ n.words) c.in_ok-first-2.first c.in_ok-first-2.second c.in_ok-first-2.ensures in
    let made : c.in_ok-list-3.list.items ≡ replacement ns (c.args.at - 1) 2 (g.C.Level.node c.in_ok-first-2.first) (option_map g.C.Level.node c.in_ok-first-2.second) = c.in_ok-list-3.ensures ∙ ap₂ (λ a b. replacement ns (c.args.at - 1) 2 a b) c.adopted-2.ensures.first c.adopted-2.ensures.second in
    mends_left g.C.Level.least ns c.in_ok-list-3.list.items c.args.at (before.size + n.size) n before (g.C.Level.node c.in_ok-first-2.first) (option_map g.C.Level.node c.in_ok-first-2.second) c.requires.children (omega (arith, c.if-at-children.false, c.requires.enough)) c.requires.within is (omega (arith, c.node-2.ensures.child.fewest)) p made
