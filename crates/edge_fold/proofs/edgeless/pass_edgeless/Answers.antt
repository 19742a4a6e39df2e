use Rattle.std.proofs.Common.{◌≡◌, ◌+◌, ◌-◌, ◌<◌, ◌++◌, ◌∷◌, [], length, take, set, get_or, refl, sym, ap, ◌∙◌, arith}
use Rattle.std.proofs.lemmas.List.{map_more, take_more_set, length-set}
use Rattle.graph_model.specs.Graph.{neighbours}
use Rattle.past_model.specs.Past.{graph_of}
use Rattle.map_model.specs.EdgeMap.{exits_with, reduction_of_numbers}
use Rattle.map_model.specs.Parts.{values_for}
use Rattle.verifier.specs.Walks.{longest}
use Rattle.edge_fold.proofs.EdgelessLemmas.{no_exits, same_numbers, same_values}
use Rattle.edge_fold.proofs.edgeless.pass_edgeless.Goals as goal
use Rattle.edge_fold.specs.Inputs.{inputs_of}

pub returns-clause-numbers : goal.returns-clause-numbers
returns-clause-numbers c =
    let p = c.args.mapped.now.program.now in
    let k = longest p in
    let g = graph_of c.args.mapped.now.version.now in
    let a = (inputs_of c.args.mapped.now) in
    let f = c.args.request.now.frontier.now in
    let i = c.args.places.start in
    let passed = c.write_edgeless in
    let to = passed.result in
    let inside : i < length f = omega (arith, c.requires.order, c.requires.inside) in
    same_numbers p k g a f (i + 1) (to - (i + 1)) to (omega (arith, passed.ensures.on)) (omega (arith, passed.ensures.inside, c.requires.inside)) passed.ensures.edgeless
    ∙ same_numbers p k g a f i 1 (i + 1) refl (omega (arith, inside))
    (λ j from before. ap (λ m. length (neighbours g (get_or f m 0))) (let same : j ≡ i = omega (arith, from, before) in same) ∙ c.requires.none)

pub returns-clause-values : goal.returns-clause-values
returns-clause-values c = λ early.
    let p = c.args.mapped.now.program.now in
    let k = longest p in
    let g = graph_of c.args.mapped.now.version.now in
    let a = (inputs_of c.args.mapped.now) in
    let r = c.args.request.now.reduction in
    let f = c.args.request.now.frontier.now in
    let i = c.args.places.start in
    let v = get_or f i 0 in
    let old = c.args.values.now in
    let number = c.nothing-number.result in
    let passed = c.write_edgeless in
    let to = passed.result in
    let inside : i < length f = omega (arith, c.requires.order, c.requires.inside) in
    let start : take (i + 1) (set old i number) ≡ values_for p k g r a (take (i + 1) f) =
    take_more_set old i number (omega (arith, inside, c.requires.long))
    ∙ ap (λ l. l ++ number ∷ []) early
    ∙ ap (λ n. values_for p k g r a (take i f) ++ n ∷ []) (c.nothing-number.ensures ∙ ap (reduction_of_numbers r) (sym (no_exits p k g a f v c.requires.none)))
    ∙ sym (map_more (λ u. reduction_of_numbers r (exits_with p k g a u)) f i 0 inside) in
    same_values p k g a f r passed.new.values (i + 1) (to - (i + 1)) to (omega (arith, passed.ensures.on)) (omega (arith, passed.ensures.inside, c.requires.inside))
    (passed.ensures.long ∙ length-set old i number ∙ c.requires.long) passed.ensures.edgeless
    (λ j from before. passed.ensures.written j from before ∙ c.nothing-number.ensures) (passed.ensures.before ∙ start)
