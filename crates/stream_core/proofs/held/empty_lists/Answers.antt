use Rattle.std.proofs.Common.{◌≡◌, [], ◌∷◌, ◌++◌, replicate, ap, ◌∙◌, arith}
use Rattle.std.proofs.lemmas.List.{map-append, replicate_more}
use Rattle.stream_core.specs.Work.{lists_of}
use Rattle.stream_core.proofs.held.empty_lists.Goals as goal

pub loop-preserved : goal.loop-preserved
loop-preserved c =
    ap lists_of c.in_ok-push.ensures.items
    ∙ map-append (λ v. v.items) c.loop.lists.items (c.new.result ∷ [])
    ∙ ap (λ l. l ++ c.new.result.items ∷ []) c.loop.invariant
    ∙ ap (λ l. replicate c.loop.counter [] ++ l ∷ []) c.new.ensures.items
    ∙ replicate_more c.loop.counter []

pub returns : goal.returns
returns c =
    let all : c.loop.counter ≡ c.args.count = omega arith in
    c.loop.invariant ∙ ap (λ n. replicate n []) all
