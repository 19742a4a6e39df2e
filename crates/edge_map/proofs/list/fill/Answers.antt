use Rattle.std.proofs.Common.{◌≡◌, ◌++◌, ℕ, List, Option, Some, None, MatchOption, length, take, drop, refl, ap, sym, subst, ◌∙◌, arith}
use Rattle.past_model.specs.Past.{Past, graph_of}
use Rattle.bpf_image.specs.Program.{Program}
use Rattle.edge_fold.specs.declared.edge.Edge.{Edge}
use Rattle.map_model.specs.declared.listed_edge.ListedEdge.{ListedEdge}
use Rattle.edge_map.specs.declared.limits.TheConstants.{BLOCK_EDGES}
use Rattle.edge_map.specs.Listing.{listing}
use Rattle.edge_map.specs.Workspaces.{IsWorkspace}
use Rattle.edge_map.proofs.Lists.{full_block, last_block}
use Rattle.edge_map.proofs.list.fill.Goals as goal

nothing_left : {X : Type 0} (o : Option X) (P : Type 0) (Q : X → Type 0) → MatchOption o P Q → ((x : X) → o ≡ Some x → ⊥) → P
nothing_left None P Q h none = h
nothing_left (Some x) P Q h none = absurd (none x refl)

pub edges-init : goal.edges-init
edges-init c =
    let version = c.version-version.ensures in
    record {
      origin = version;
      past = sym version;
      listed = ap (λ l. l ++ listing c.args.program.now (graph_of c.version-version.result.now) c.args.argument.now c.args.walk.now.edges) (sym c.requires.empty);
      few = omega (arith, ap length c.requires.empty);
      room = c.requires.room;
      workspace = subst (λ (p : Past). IsWorkspace c.args.program.now (graph_of p) c.args.argument.now c.args.workspace.now) (sym version) c.requires.workspace;
    }

-- what was listed and what is to be listed, in the words of the contract
listed_so_far : (program : Program) (origin version : Past) (argument : List ℕ) (all left : List Edge) (block : List ListedEdge) → version ≡ origin
    → listing program (graph_of version) argument all ≡ block ++ listing program (graph_of version) argument left
    → listing program (graph_of origin) argument all ≡ block ++ listing program (graph_of origin) argument left
listed_so_far program origin version argument all left block same listed =
    subst (λ (p : Past). listing program (graph_of p) argument all ≡ block ++ listing program (graph_of p) argument left) same listed

-- the block, and what is left, at the end of the list
at_end : (c : goal.In_default) → let numbered = listing c.args.program.now (graph_of c.args.walk.now.past) c.args.argument.now in
    (c.edges.block.items ≡ take BLOCK_EDGES (numbered c.args.walk.now.edges)) × (numbered c.next.new.self.edges ≡ drop BLOCK_EDGES (numbered c.args.walk.now.edges))
at_end c =
    let numbered = listing c.args.program.now (graph_of c.args.walk.now.past) c.args.argument.now in
    let listed = listed_so_far _ _ _ _ _ _ _ c.edges.invariant.origin c.edges.invariant.listed in
    let ended = nothing_left c.next.result _ _ c.next.ensures.edges c.in_default.not-Some in
    let same : numbered c.edges.walk.edges ≡ numbered c.next.new.self.edges = ap numbered (ended.0 ∙ sym ended.1) in
    last_block (numbered c.args.walk.now.edges) c.edges.block.items (numbered c.next.new.self.edges) BLOCK_EDGES
    (listed ∙ ap (λ l. c.edges.block.items ++ l) same) (ap numbered ended.1) c.edges.invariant.few

pub returns-in_default-clause-block : goal.returns-in_default-clause-block
returns-in_default-clause-block c = (at_end c).0

pub returns-in_default-clause-left : goal.returns-in_default-clause-left
returns-in_default-clause-left c = (at_end c).1

-- the same where the block is full
pub returns-clause-block : goal.returns-clause-block
returns-clause-block c =
    let numbered = listing c.args.program.now (graph_of c.args.walk.now.past) c.args.argument.now in
    let few = c.edges.invariant.few in
    let long : length c.edges.block.items ≡ BLOCK_EDGES = omega (arith, c.edges-test.false, c.len.ensures, few) in
    let listed = listed_so_far _ _ _ _ _ _ _ c.edges.invariant.origin c.edges.invariant.listed in
    (full_block (numbered c.args.walk.now.edges) c.edges.block.items (numbered c.edges.walk.edges) BLOCK_EDGES listed long).0

pub returns-clause-left : goal.returns-clause-left
returns-clause-left c =
    let numbered = listing c.args.program.now (graph_of c.args.walk.now.past) c.args.argument.now in
    let few = c.edges.invariant.few in
    let long : length c.edges.block.items ≡ BLOCK_EDGES = omega (arith, c.edges-test.false, c.len.ensures, few) in
    let listed = listed_so_far _ _ _ _ _ _ _ c.edges.invariant.origin c.edges.invariant.listed in
    (full_block (numbered c.args.walk.now.edges) c.edges.block.items (numbered c.edges.walk.edges) BLOCK_EDGES listed long).1
