use Rattle.std.proofs.Common.{◌≡◌, ℕ, ◌+◌, ◌-◌, ◌<◌, ◌≤◌, ◌/◌, length, set, get_or, refl, sym, ap, ◌∙◌, [], ◌∷◌, None, inl, inr, arith, w64, to_z}
use Rattle.std.specs.Prelude.{pos}
use Rattle.std.proofs.lemmas.Int.{to_z_pos}
use Rattle.std.proofs.lemmas.List.{get_or_read_under}
use Rattle.bpf_isa.specs.declared.limits.TheConstants.{MOST_UNITS}
use Rattle.bpf_image.specs.Program.{units}
use Rattle.verifier.specs.Functions.{function_end}
use Rattle.verifier.specs.Equations.{calls_of, joined_ways}
use Rattle.verifier.specs.Tables.{state_at, passage_of, IsGoneTo, IsAtCall}
use Rattle.verifier.proofs.Flowing.{Flows, end_inside}
use Rattle.verifier.proofs.Passages.{begun, through}
use Rattle.verifier.proofs.Going.{end_behind, later, reaches_end, callee_begins, returned, behind_inside, breaks_none}
use Rattle.verifier.proofs.Knowing.{IsKeptTo, kept_more, done_broken, done_whole, broken_by}
use Rattle.verifier.proofs.known.go_over.Goals.{in-Some+in_ok-again+in-Ok-go_through, in_default}
use Rattle.verifier.proofs.known.go_over.Goals as goal

pub arrive-requires : goal.arrive-requires
arrive-requires c w m =
    let few : units c.args.layout.now.image.now ≤ MOST_UNITS = c.code.ensures.image.code.most in
    let place : to_z w64 c.args.passage.entry ≡ pos c.args.passage.entry = to_z_pos w64 c.args.passage.entry (omega (arith, c.requires.inside, few)) in
    let size : units c.args.layout.now.image.now ≡ length c.code.result.now / 8 = ap (λ xs. length xs / 8) (sym c.code.ensures.exact) in
    elim m [ inl is ↦ (c.args.passage.entry, ap (λ x. x.0) is ∙ place, (let long = c.in_ok-states.ensures.same_length in omega (arith, c.requires.inside, size, long))) | inr none ↦ absurd none ]

pub loop-pc-init : goal.loop-pc-init
loop-pc-init c =
    let end : c.from-end.result ≡ function_end c.args.layout.now.image.now c.args.passage.entry = c.from-end.ensures ∙ c.args.layout.now.ended.1 c.args.passage.entry c.requires.inside in
    let few : units c.args.layout.now.image.now ≤ MOST_UNITS = c.code.ensures.image.code.most in
    let place : to_z w64 c.args.passage.entry ≡ pos c.args.passage.entry = to_z_pos w64 c.args.passage.entry (omega (arith, c.requires.inside, few)) in
    let kept_size : length c.in_ok-kept.kept.items ≡ units c.args.layout.now.image.now = c.in_ok-kept.ensures.same_length ∙ ap (λ xs. length xs / 8) c.code.ensures.exact in
    let size : length c.in_ok-states.states.items ≡ units c.args.layout.now.image.now = c.in_ok-states.ensures.same_length ∙ ap (λ xs. length xs / 8) c.code.ensures.exact in
    let at : (q : ℕ) → state_at c.arrive.new.states.items q ≡ joined_ways (state_at [] q) ((pos c.args.passage.entry, c.args.passage.known) ∷ []) q = λ q. (let a = c.arrive.ensures.arrived q in rw (place, c.in_ok-states.ensures.none q) at a) in
    let first = begun c.args.layout.now.image.now (calls_of c.args.layout.now.image.now (passage_of c.args.passage)) (passage_of c.args.passage) [] c.arrive.new.states.items (c.arrive.ensures.same_length ∙ size) (λ q from. refl) at in (
      later c.args.layout.now.image.now (calls_of c.args.layout.now.image.now (passage_of c.args.passage)) (passage_of c.args.passage) [] c.arrive.new.states.items c.args.passage.entry c.args.passage.entry (c.from-end.result - 1) None first (omega (arith, end, end_behind c.args.layout.now.image.now c.args.passage.entry)),
      omega arith,
      omega (arith, end, end_behind c.args.layout.now.image.now c.args.passage.entry),
      record { same_length = kept_size; known = λ q from to. absurd (omega (arith, from, to)) },
    )

pub index-requires : goal.index-requires
index-requires c =
    let end : c.from-end.result ≡ function_end c.args.layout.now.image.now c.args.passage.entry = c.from-end.ensures ∙ c.args.layout.now.ended.1 c.args.passage.entry c.requires.inside in
    let most = end_inside c.args.layout.now.image.now c.args.passage.entry c.requires.inside in
    let lt : c.loop-pc.pc < function_end c.args.layout.now.image.now c.args.passage.entry = omega (arith, end, c.loop-pc-test.true) in
    let below : c.loop-pc.pc < units c.args.layout.now.image.now = omega (arith, lt, most) in
    let size = c.loop-pc.invariant.0.same_length in
    omega (arith, below, size)

pub index_mut-requires : goal.index_mut-requires
index_mut-requires c =
    let end : c.from-end.result ≡ function_end c.args.layout.now.image.now c.args.passage.entry = c.from-end.ensures ∙ c.args.layout.now.ended.1 c.args.passage.entry c.requires.inside in
    let most = end_inside c.args.layout.now.image.now c.args.passage.entry c.requires.inside in
    let lt : c.loop-pc.pc < function_end c.args.layout.now.image.now c.args.passage.entry = omega (arith, end, c.loop-pc-test.true) in
    let below : c.loop-pc.pc < units c.args.layout.now.image.now = omega (arith, lt, most) in
    let size = c.loop-pc.invariant.3.same_length in
    omega (arith, below, size)

pub visit-requires-clause-inside : goal.visit-requires-clause-inside
visit-requires-clause-inside c =
    let end : c.from-end.result ≡ function_end c.args.layout.now.image.now c.args.passage.entry = c.from-end.ensures ∙ c.args.layout.now.ended.1 c.args.passage.entry c.requires.inside in
    let most = end_inside c.args.layout.now.image.now c.args.passage.entry c.requires.inside in
    let lt : c.loop-pc.pc < function_end c.args.layout.now.image.now c.args.passage.entry = omega (arith, end, c.loop-pc-test.true) in
    let below : c.loop-pc.pc < units c.args.layout.now.image.now = omega (arith, lt, most) in
    below

pub returns-in-Err-clause-known : goal.returns-in-Err-clause-known
returns-in-Err-clause-known c =
    let end : c.from-end.result ≡ function_end c.args.layout.now.image.now c.args.passage.entry = c.from-end.ensures ∙ c.args.layout.now.ended.1 c.args.passage.entry c.requires.inside in
    let most = end_inside c.args.layout.now.image.now c.args.passage.entry c.requires.inside in
    let lt : c.loop-pc.pc < function_end c.args.layout.now.image.now c.args.passage.entry = omega (arith, end, c.loop-pc-test.true) in
    let below : c.loop-pc.pc < units c.args.layout.now.image.now = omega (arith, lt, most) in
    let read : c.index.result.now ≡ get_or c.loop-pc.states.items c.loop-pc.pc None = get_or_read_under c.loop-pc.states.items c.loop-pc.pc (units c.args.layout.now.image.now) c.index.result.now None c.index.ensures below (sym c.loop-pc.invariant.0.same_length) in
    let same : c.in_ok-kept-2.field-0 ≡ state_at c.loop-pc.states.items c.loop-pc.pc = c.in_ok-kept-2.ensures ∙ read in
    let kept : IsKeptTo c.args.layout.now.image.now (passage_of c.args.passage) (c.loop-pc.pc + 1) (set c.loop-pc.kept.items c.loop-pc.pc c.in_ok-kept-2.field-0) = kept_more c.args.layout.now.image.now (passage_of c.args.passage) c.loop-pc.pc (c.from-end.result - 1) [] c.loop-pc.states.items c.loop-pc.kept.items c.loop-pc.exits c.in_ok-kept-2.field-0 below c.loop-pc.invariant.0 c.loop-pc.invariant.3 same in
    record { entry = refl; same_length = kept.same_length; known = λ q from to. kept.known q from (omega (arith, to)) }

pub returns-in-Err-clause-stopped : goal.returns-in-Err-clause-stopped
returns-in-Err-clause-stopped c =
    let end : c.from-end.result ≡ function_end c.args.layout.now.image.now c.args.passage.entry = c.from-end.ensures ∙ c.args.layout.now.ended.1 c.args.passage.entry c.requires.inside in
    let most = end_inside c.args.layout.now.image.now c.args.passage.entry c.requires.inside in
    let lt : c.loop-pc.pc < function_end c.args.layout.now.image.now c.args.passage.entry = omega (arith, end, c.loop-pc-test.true) in
    let below : c.loop-pc.pc < units c.args.layout.now.image.now = omega (arith, lt, most) in
    elim (c.in-Err.ensures.gone (passage_of c.args.passage) [] (c.from-end.result - 1) refl c.loop-pc.invariant.1 c.loop-pc.invariant.0) [
      | inl memory ↦ absurd (c.in_ok-rule_or_memory-in-Err.ensures.rule memory)
      | inr here ↦ done_broken c.args.layout.now.image.now (passage_of c.args.passage) c.loop-pc.pc c.in-Err.refusal below here
    ]

pub go_through-requires-clause-inside : goal.go_through-requires-clause-inside
go_through-requires-clause-inside c =
    let end : c.from-end.result ≡ function_end c.args.layout.now.image.now c.args.passage.entry = c.from-end.ensures ∙ c.args.layout.now.ended.1 c.args.passage.entry c.requires.inside in
    let most = end_inside c.args.layout.now.image.now c.args.passage.entry c.requires.inside in
    let lt : c.loop-pc.pc < function_end c.args.layout.now.image.now c.args.passage.entry = omega (arith, end, c.loop-pc-test.true) in
    let below : c.loop-pc.pc < units c.args.layout.now.image.now = omega (arith, lt, most) in
    let passed : Flows c.args.layout.now.image.now = record { decodes = c.args.layout.now.decodes; flow = c.args.layout.now.flows } in
    let h : IsAtCall c.args.layout.now.image.now (calls_of c.args.layout.now.image.now (passage_of c.args.passage)) (passage_of c.args.passage) [] c.loop-pc.pc (function_end c.args.layout.now.image.now c.args.passage.entry - 1) c.visit.new.states.items c.visit.new.exits c.in-Some.begins c.in-Some.known = rw (end, c.in-Some.is) at (c.in-Ok.ensures.gone (passage_of c.args.passage) [] (c.from-end.result - 1) refl c.loop-pc.invariant.1 c.loop-pc.invariant.0) in
    let begins = callee_begins c.args.layout.now.image.now (calls_of c.args.layout.now.image.now (passage_of c.args.passage)) (passage_of c.args.passage) [] c.visit.new.states.items c.loop-pc.pc c.in-Some.begins c.visit.new.exits c.in-Some.known passed c.requires.inside c.loop-pc.invariant.1 lt h in
    begins.0

pub go_through-requires-clause-long : goal.go_through-requires-clause-long
go_through-requires-clause-long c =
    let end : c.from-end.result ≡ function_end c.args.layout.now.image.now c.args.passage.entry = c.from-end.ensures ∙ c.args.layout.now.ended.1 c.args.passage.entry c.requires.inside in
    let h : IsAtCall c.args.layout.now.image.now (calls_of c.args.layout.now.image.now (passage_of c.args.passage)) (passage_of c.args.passage) [] c.loop-pc.pc (function_end c.args.layout.now.image.now c.args.passage.entry - 1) c.visit.new.states.items c.visit.new.exits c.in-Some.begins c.in-Some.known = rw (end, c.in-Some.is) at (c.in-Ok.ensures.gone (passage_of c.args.passage) [] (c.from-end.result - 1) refl c.loop-pc.invariant.1 c.loop-pc.invariant.0) in
    h.long ∙ h.gone_to.same_length

pub go_through-requires-clause-clear : goal.go_through-requires-clause-clear
go_through-requires-clause-clear c =
    let end : c.from-end.result ≡ function_end c.args.layout.now.image.now c.args.passage.entry = c.from-end.ensures ∙ c.args.layout.now.ended.1 c.args.passage.entry c.requires.inside in
    let most = end_inside c.args.layout.now.image.now c.args.passage.entry c.requires.inside in
    let lt : c.loop-pc.pc < function_end c.args.layout.now.image.now c.args.passage.entry = omega (arith, end, c.loop-pc-test.true) in
    let below : c.loop-pc.pc < units c.args.layout.now.image.now = omega (arith, lt, most) in
    let passed : Flows c.args.layout.now.image.now = record { decodes = c.args.layout.now.decodes; flow = c.args.layout.now.flows } in
    let h : IsAtCall c.args.layout.now.image.now (calls_of c.args.layout.now.image.now (passage_of c.args.passage)) (passage_of c.args.passage) [] c.loop-pc.pc (function_end c.args.layout.now.image.now c.args.passage.entry - 1) c.visit.new.states.items c.visit.new.exits c.in-Some.begins c.in-Some.known = rw (end, c.in-Some.is) at (c.in-Ok.ensures.gone (passage_of c.args.passage) [] (c.from-end.result - 1) refl c.loop-pc.invariant.1 c.loop-pc.invariant.0) in
    let begins = callee_begins c.args.layout.now.image.now (calls_of c.args.layout.now.image.now (passage_of c.args.passage)) (passage_of c.args.passage) [] c.visit.new.states.items c.loop-pc.pc c.in-Some.begins c.visit.new.exits c.in-Some.known passed c.requires.inside c.loop-pc.invariant.1 lt h in
    begins.1

pub go_through-requires-clause-frame : goal.go_through-requires-clause-frame
go_through-requires-clause-frame c =
    let end : c.from-end.result ≡ function_end c.args.layout.now.image.now c.args.passage.entry = c.from-end.ensures ∙ c.args.layout.now.ended.1 c.args.passage.entry c.requires.inside in
    let h : IsAtCall c.args.layout.now.image.now (calls_of c.args.layout.now.image.now (passage_of c.args.passage)) (passage_of c.args.passage) [] c.loop-pc.pc (function_end c.args.layout.now.image.now c.args.passage.entry - 1) c.visit.new.states.items c.visit.new.exits c.in-Some.begins c.in-Some.known = rw (end, c.in-Some.is) at (c.in-Ok.ensures.gone (passage_of c.args.passage) [] (c.from-end.result - 1) refl c.loop-pc.invariant.1 c.loop-pc.invariant.0) in
    (let deep = h.deep in omega (arith, deep))

pub returns-in-Err-go_through-clause-known : goal.returns-in-Err-go_through-clause-known
returns-in-Err-go_through-clause-known c =
    let end : c.from-end.result ≡ function_end c.args.layout.now.image.now c.args.passage.entry = c.from-end.ensures ∙ c.args.layout.now.ended.1 c.args.passage.entry c.requires.inside in
    let most = end_inside c.args.layout.now.image.now c.args.passage.entry c.requires.inside in
    let lt : c.loop-pc.pc < function_end c.args.layout.now.image.now c.args.passage.entry = omega (arith, end, c.loop-pc-test.true) in
    let below : c.loop-pc.pc < units c.args.layout.now.image.now = omega (arith, lt, most) in
    let read : c.index.result.now ≡ get_or c.loop-pc.states.items c.loop-pc.pc None = get_or_read_under c.loop-pc.states.items c.loop-pc.pc (units c.args.layout.now.image.now) c.index.result.now None c.index.ensures below (sym c.loop-pc.invariant.0.same_length) in
    let same : c.in_ok-kept-2.field-0 ≡ state_at c.loop-pc.states.items c.loop-pc.pc = c.in_ok-kept-2.ensures ∙ read in
    let kept : IsKeptTo c.args.layout.now.image.now (passage_of c.args.passage) (c.loop-pc.pc + 1) (set c.loop-pc.kept.items c.loop-pc.pc c.in_ok-kept-2.field-0) = kept_more c.args.layout.now.image.now (passage_of c.args.passage) c.loop-pc.pc (c.from-end.result - 1) [] c.loop-pc.states.items c.loop-pc.kept.items c.loop-pc.exits c.in_ok-kept-2.field-0 below c.loop-pc.invariant.0 c.loop-pc.invariant.3 same in
    record { entry = refl; same_length = kept.same_length; known = λ q from to. kept.known q from (omega (arith, to)) }

pub returns-in-Err-go_through-clause-stopped : goal.returns-in-Err-go_through-clause-stopped
returns-in-Err-go_through-clause-stopped c =
    let end : c.from-end.result ≡ function_end c.args.layout.now.image.now c.args.passage.entry = c.from-end.ensures ∙ c.args.layout.now.ended.1 c.args.passage.entry c.requires.inside in
    let most = end_inside c.args.layout.now.image.now c.args.passage.entry c.requires.inside in
    let lt : c.loop-pc.pc < function_end c.args.layout.now.image.now c.args.passage.entry = omega (arith, end, c.loop-pc-test.true) in
    let below : c.loop-pc.pc < units c.args.layout.now.image.now = omega (arith, lt, most) in
    let passed : Flows c.args.layout.now.image.now = record { decodes = c.args.layout.now.decodes; flow = c.args.layout.now.flows } in
    let h : IsAtCall c.args.layout.now.image.now (calls_of c.args.layout.now.image.now (passage_of c.args.passage)) (passage_of c.args.passage) [] c.loop-pc.pc (function_end c.args.layout.now.image.now c.args.passage.entry - 1) c.visit.new.states.items c.visit.new.exits c.in-Some.begins c.in-Some.known = rw (end, c.in-Some.is) at (c.in-Ok.ensures.gone (passage_of c.args.passage) [] (c.from-end.result - 1) refl c.loop-pc.invariant.1 c.loop-pc.invariant.0) in
    let begins = callee_begins c.args.layout.now.image.now (calls_of c.args.layout.now.image.now (passage_of c.args.passage)) (passage_of c.args.passage) [] c.visit.new.states.items c.loop-pc.pc c.in-Some.begins c.visit.new.exits c.in-Some.known passed c.requires.inside c.loop-pc.invariant.1 lt h in
    elim c.in-Err-go_through.ensures.comes [
      | inl memory ↦ absurd (c.in_ok-rule_or_memory-in-Err-go_through.ensures.rule memory)
      | inr is ↦ broken_by c.args.layout.now.image.now (passage_of c.args.passage) [] c.visit.new.states.items c.loop-pc.pc (function_end c.args.layout.now.image.now c.args.passage.entry - 1) c.in-Some.begins (c.args.passage.frame + 1) c.visit.new.exits c.in-Some.known c.in_ok-again.again c.in-Err-go_through.refusal below h refl begins.0 c.in_ok-again.ensures is
    ]

pub go_on_after-requires-clause-near : goal.go_on_after-requires-clause-near
go_on_after-requires-clause-near c =
    let end : c.from-end.result ≡ function_end c.args.layout.now.image.now c.args.passage.entry = c.from-end.ensures ∙ c.args.layout.now.ended.1 c.args.passage.entry c.requires.inside in
    let most = end_inside c.args.layout.now.image.now c.args.passage.entry c.requires.inside in
    let lt : c.loop-pc.pc < function_end c.args.layout.now.image.now c.args.passage.entry = omega (arith, end, c.loop-pc-test.true) in
    let below : c.loop-pc.pc < units c.args.layout.now.image.now = omega (arith, lt, most) in
    let few : units c.args.layout.now.image.now ≤ MOST_UNITS = c.code.ensures.image.code.most in
    omega (arith, below, few)

pub go_on_after-requires-clause-inside : goal.go_on_after-requires-clause-inside
go_on_after-requires-clause-inside c =
    let end : c.from-end.result ≡ function_end c.args.layout.now.image.now c.args.passage.entry = c.from-end.ensures ∙ c.args.layout.now.ended.1 c.args.passage.entry c.requires.inside in
    let passed : Flows c.args.layout.now.image.now = record { decodes = c.args.layout.now.decodes; flow = c.args.layout.now.flows } in
    let h : IsAtCall c.args.layout.now.image.now (calls_of c.args.layout.now.image.now (passage_of c.args.passage)) (passage_of c.args.passage) [] c.loop-pc.pc (function_end c.args.layout.now.image.now c.args.passage.entry - 1) c.visit.new.states.items c.visit.new.exits c.in-Some.begins c.in-Some.known = rw (end, c.in-Some.is) at (c.in-Ok.ensures.gone (passage_of c.args.passage) [] (c.from-end.result - 1) refl c.loop-pc.invariant.1 c.loop-pc.invariant.0) in
    let behind = behind_inside c.args.layout.now.image.now c.loop-pc.pc h.distance passed h.found in
    let size : length c.go_through.new.states.items ≡ units c.args.layout.now.image.now = c.in-Ok-go_through.ensures.same_length ∙ h.long ∙ h.gone_to.same_length in
    omega (arith, behind, size)

pub loop-pc-preserved : goal.loop-pc-preserved
loop-pc-preserved c =
    let end : c.from-end.result ≡ function_end c.args.layout.now.image.now c.args.passage.entry = c.from-end.ensures ∙ c.args.layout.now.ended.1 c.args.passage.entry c.requires.inside in
    let most = end_inside c.args.layout.now.image.now c.args.passage.entry c.requires.inside in
    let lt : c.loop-pc.pc < function_end c.args.layout.now.image.now c.args.passage.entry = omega (arith, end, c.loop-pc-test.true) in
    let below : c.loop-pc.pc < units c.args.layout.now.image.now = omega (arith, lt, most) in
    let passed : Flows c.args.layout.now.image.now = record { decodes = c.args.layout.now.decodes; flow = c.args.layout.now.flows } in
    let read : c.index.result.now ≡ get_or c.loop-pc.states.items c.loop-pc.pc None = get_or_read_under c.loop-pc.states.items c.loop-pc.pc (units c.args.layout.now.image.now) c.index.result.now None c.index.ensures below (sym c.loop-pc.invariant.0.same_length) in
    let same : c.in_ok-kept-2.field-0 ≡ state_at c.loop-pc.states.items c.loop-pc.pc = c.in_ok-kept-2.ensures ∙ read in
    let kept : IsKeptTo c.args.layout.now.image.now (passage_of c.args.passage) (c.loop-pc.pc + 1) (set c.loop-pc.kept.items c.loop-pc.pc c.in_ok-kept-2.field-0) = kept_more c.args.layout.now.image.now (passage_of c.args.passage) c.loop-pc.pc (c.from-end.result - 1) [] c.loop-pc.states.items c.loop-pc.kept.items c.loop-pc.exits c.in_ok-kept-2.field-0 below c.loop-pc.invariant.0 c.loop-pc.invariant.3 same in
    elim c.match-opened.branch [
      | in-Some+in_ok-again+in-Ok-go_through w ↦ (
          let h : IsAtCall c.args.layout.now.image.now (calls_of c.args.layout.now.image.now (passage_of c.args.passage)) (passage_of c.args.passage) [] c.loop-pc.pc (function_end c.args.layout.now.image.now c.args.passage.entry - 1) c.visit.new.states.items c.visit.new.exits w.in-Some.begins w.in-Some.known = rw (end, w.in-Some.is) at (c.in-Ok.ensures.gone (passage_of c.args.passage) [] (c.from-end.result - 1) refl c.loop-pc.invariant.1 c.loop-pc.invariant.0) in
          let all : IsGoneTo c.args.layout.now.image.now (calls_of c.args.layout.now.image.now (passage_of c.args.passage)) (passage_of c.args.passage) [] (c.loop-pc.pc + 1) (function_end c.args.layout.now.image.now c.args.passage.entry - 1) w.go_on_after.new.states.items c.visit.new.exits = returned c.args.layout.now.image.now (passage_of c.args.passage) [] c.visit.new.states.items w.go_through.new.states.items w.go_on_after.new.states.items c.loop-pc.pc w.in-Some.begins (c.args.passage.frame + 1) c.visit.new.exits w.in-Some.known w.in-Ok-go_through.left passed c.requires.inside c.loop-pc.invariant.1 lt h refl w.in-Ok-go_through.ensures.comes w.in-Ok-go_through.ensures.same_length w.in-Ok-go_through.ensures.before w.go_on_after.ensures.same_length w.go_on_after.ensures.gone in
          (rw (end, w.states-is) all, omega (arith, c.loop-pc.invariant.1), omega (arith, c.loop-pc-test.true), kept))
      | in_default w ↦ (
          let h = rw (end, w.in_default.is) at (c.in-Ok.ensures.gone (passage_of c.args.passage) [] (c.from-end.result - 1) refl c.loop-pc.invariant.1 c.loop-pc.invariant.0) in
          let all : IsGoneTo c.args.layout.now.image.now (calls_of c.args.layout.now.image.now (passage_of c.args.passage)) (passage_of c.args.passage) [] (c.loop-pc.pc + 1) (function_end c.args.layout.now.image.now c.args.passage.entry - 1) c.visit.new.states.items c.visit.new.exits = h (function_end c.args.layout.now.image.now c.args.passage.entry - 1) (omega arith) (reaches_end c.args.layout.now.image.now c.args.passage.entry c.loop-pc.pc passed c.requires.inside c.loop-pc.invariant.1 lt) in
          (rw (end, w.states-is) all, omega (arith, c.loop-pc.invariant.1), omega (arith, c.loop-pc-test.true), kept))
    ]

pub overflow_sub-result : goal.overflow_sub-result
overflow_sub-result c =
    let end : c.from-end.result ≡ function_end c.args.layout.now.image.now c.args.passage.entry = c.from-end.ensures ∙ c.args.layout.now.ended.1 c.args.passage.entry c.requires.inside in
    omega (arith, end, end_behind c.args.layout.now.image.now c.args.passage.entry)

pub returns-clause-known : goal.returns-clause-known
returns-clause-known c =
    let at_end : c.loop-pc.pc ≡ c.from-end.result = omega (arith, c.loop-pc.invariant.2, c.loop-pc-test.false) in
    let end : c.from-end.result ≡ function_end c.args.layout.now.image.now c.args.passage.entry = c.from-end.ensures ∙ c.args.layout.now.ended.1 c.args.passage.entry c.requires.inside in
    let kept = c.loop-pc.invariant.3 in
    record { entry = refl; same_length = kept.same_length; known = λ q from to. kept.known q from (omega (arith, to, at_end, end, end_behind c.args.layout.now.image.now c.args.passage.entry)) }

pub returns-clause-stopped : goal.returns-clause-stopped
returns-clause-stopped c =
    let end : c.from-end.result ≡ function_end c.args.layout.now.image.now c.args.passage.entry = c.from-end.ensures ∙ c.args.layout.now.ended.1 c.args.passage.entry c.requires.inside in
    let most = end_inside c.args.layout.now.image.now c.args.passage.entry c.requires.inside in
    let at_end : c.loop-pc.pc ≡ c.from-end.result = omega (arith, c.loop-pc.invariant.2, c.loop-pc-test.false) in
    let outcome = through c.args.layout.now.image.now (calls_of c.args.layout.now.image.now (passage_of c.args.passage)) (passage_of c.args.passage) [] c.loop-pc.states.items c.loop-pc.pc (c.from-end.result - 1) c.loop-pc.exits (omega (arith, at_end, end, most)) (omega (arith, at_end, end, end_behind c.args.layout.now.image.now c.args.passage.entry)) c.loop-pc.invariant.0 in
    done_whole c.args.layout.now.image.now (passage_of c.args.passage) (c.from-end.result - 1) (breaks_none c.args.layout.now.image.now (calls_of c.args.layout.now.image.now (passage_of c.args.passage)) (passage_of c.args.passage) c.loop-pc.exits outcome) (omega (arith, end, end_behind c.args.layout.now.image.now c.args.passage.entry))
