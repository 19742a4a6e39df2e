use Rattle.std.proofs.Common.{◌≡◌, ◌+◌, ◌-◌, ◌++◌, ◌∷◌, [], List, sym, ap, subst, ◌∙◌, arith, rules}
use Rattle.std.specs.Arc.{arc_value}
use Rattle.past_model.specs.declared.entry.Entry.{Entry}
use Rattle.past_model.specs.Past.{Past, longer}
use Rattle.version.specs.Ground.{Ground, past_on}
use Rattle.version.specs.Version.{IsVersion, IsMade}
use Rattle.version.proofs.version.Version.with_batch.Goals as goal
use Rattle.version.proofs.version.Version.with_batch.Goals.{In_ok-with}

-- the past of this version
abbrev here : In_ok-with → Past
here c = past_on c.self.inside.vertex_count (arc_value c.self.inside.epoch) c.self.inside.log

-- what the batch made of it
given : (c : In_ok-with) → IsMade (here c) c.args.entry.now c.args.made.0 c.args.made.1
given c = subst (λ (p : Past). IsMade p c.args.entry.now c.args.made.0 c.args.made.1) (sym c.self.view_is) c.requires

-- the past of what is made is longer by the batch
more : (c : In_ok-with) → past_on c.self.inside.vertex_count (arc_value c.in_ok-try_clone.field-0) c.in_ok-with.field-0 ≡ longer (here c) c.args.entry.now
more c =
    let n = c.self.inside.vertex_count in
    let epoch : arc_value c.in_ok-try_clone.field-0 ≡ arc_value c.self.inside.epoch = search rules in
    ap (λ (g : Ground). past_on n g c.in_ok-with.field-0) epoch
    ∙ ap (λ (l : List Entry). past_on n (arc_value c.self.inside.epoch) l) (c.in_ok-with.ensures ∙ ap (λ (e : Entry). c.self.inside.log ++ e ∷ []) c.in_ok-share.ensures)

pub overflow_add-version : goal.overflow_add-version
overflow_add-version c = let few = (given c).few in let edges = c.self.invariant.edges_are in omega (arith, few, edges)

pub overflow_sub-version : goal.overflow_sub-version
overflow_sub-version c = let some = (given c).some in let edges = c.self.invariant.edges_are in omega (arith, some, edges)

pub invariant_of-version : goal.invariant_of-version
invariant_of-version c =
    let edges = c.self.inside.edge_count + c.args.made.1.added - c.args.made.1.removed in
    subst (λ (p : Past). IsVersion p c.args.made.0 edges) (sym (more c))
    (subst (λ n. IsVersion (longer (here c) c.args.entry.now) c.args.made.0 (n + c.args.made.1.added - c.args.made.1.removed)) (sym c.self.invariant.edges_are) (given c).version)

pub returns-clause-next : goal.returns-clause-next
returns-clause-next c = more c ∙ ap (λ (p : Past). longer p c.args.entry.now) c.self.view_is
