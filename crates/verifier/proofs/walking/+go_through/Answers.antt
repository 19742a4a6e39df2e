use Rattle.std.proofs.Common.{◌≡◌, ℕ, ◌+◌, ◌-◌, ◌<◌, ◌≤◌, length, refl, ap, ◌∙◌, [], ◌∷◌, None, inl, inr, arith, w64, to_z}
use Rattle.std.specs.Prelude.{pos}
use Rattle.std.proofs.lemmas.Int.{to_z_pos}
use Rattle.bpf_image.specs.Program.{units}
use Rattle.verifier.specs.Functions.{function_end}
use Rattle.verifier.specs.Equations.{calls_of, joined_ways}
use Rattle.verifier.specs.Tables.{state_at, passage_of, IsGoneTo, IsAtCall}
use Rattle.verifier.proofs.Flowing.{Flows, end_inside}
use Rattle.verifier.proofs.Passages.{begun, through, as_before}
use Rattle.verifier.proofs.Passing.{broken_outcome}
use Rattle.verifier.proofs.Going.{end_behind, later, reaches_end, callee_begins, returned, broken, behind_inside}
use Rattle.verifier.proofs.walking.+go_through.Goals.{in-Some+in-Ok-go_through, in_default}
use Rattle.verifier.proofs.walking.+go_through.Goals as goal

pub arrive-requires : goal.arrive-requires
arrive-requires t c w m =
    let place : to_z w64 c.args.passage.entry ≡ pos c.args.passage.entry = to_z_pos w64 c.args.passage.entry (omega (arith, c.requires.inside, c.requires.few)) in
    elim m [ inl is ↦ (c.args.passage.entry, ap (λ x. x.0) is ∙ place, omega (arith, c.requires.inside, c.requires.long)) | inr none ↦ absurd none ]

pub loop-pc-init : goal.loop-pc-init
loop-pc-init t c =
    let end : c.from-end.result ≡ function_end c.args.layout.now.image.now c.args.passage.entry = c.from-end.ensures ∙ c.args.layout.now.ended.1 c.args.passage.entry c.requires.inside in
    let place : to_z w64 c.args.passage.entry ≡ pos c.args.passage.entry = to_z_pos w64 c.args.passage.entry (omega (arith, c.requires.inside, c.requires.few)) in
    let at : (q : ℕ) → state_at c.arrive.new.states.items q ≡ joined_ways (state_at c.args.states.now.items q) ((pos c.args.passage.entry, c.args.passage.known) ∷ []) q = λ q. (let a = c.arrive.ensures.arrived q in rw place at a) in
    let first = begun c.args.layout.now.image.now (calls_of c.args.layout.now.image.now (passage_of c.args.passage)) (passage_of c.args.passage) c.args.states.now.items c.arrive.new.states.items (c.arrive.ensures.same_length ∙ c.requires.long) c.requires.clear at in
    (later c.args.layout.now.image.now (calls_of c.args.layout.now.image.now (passage_of c.args.passage)) (passage_of c.args.passage) c.args.states.now.items c.arrive.new.states.items c.args.passage.entry c.args.passage.entry (c.from-end.result - 1) None first (omega (arith, end, end_behind c.args.layout.now.image.now c.args.passage.entry)), omega arith, omega (arith, end, end_behind c.args.layout.now.image.now c.args.passage.entry))

pub visit-requires-clause-inside : goal.visit-requires-clause-inside
visit-requires-clause-inside t c =
    let end : c.from-end.result ≡ function_end c.args.layout.now.image.now c.args.passage.entry = c.from-end.ensures ∙ c.args.layout.now.ended.1 c.args.passage.entry c.requires.inside in
    let most = end_inside c.args.layout.now.image.now c.args.passage.entry c.requires.inside in
    let lt : c.loop-pc.pc < function_end c.args.layout.now.image.now c.args.passage.entry = omega (arith, end, c.loop-pc-test.true) in
    omega (arith, lt, most)

pub go_through-requires : goal.go_through-requires
go_through-requires t c =
    let end : c.from-end.result ≡ function_end c.args.layout.now.image.now c.args.passage.entry = c.from-end.ensures ∙ c.args.layout.now.ended.1 c.args.passage.entry c.requires.inside in
    let most = end_inside c.args.layout.now.image.now c.args.passage.entry c.requires.inside in
    let lt : c.loop-pc.pc < function_end c.args.layout.now.image.now c.args.passage.entry = omega (arith, end, c.loop-pc-test.true) in
    let passed : Flows c.args.layout.now.image.now = record { decodes = c.args.layout.now.decodes; flow = c.args.layout.now.flows } in
    let h : IsAtCall c.args.layout.now.image.now (calls_of c.args.layout.now.image.now (passage_of c.args.passage)) (passage_of c.args.passage) c.args.states.now.items c.loop-pc.pc (function_end c.args.layout.now.image.now c.args.passage.entry - 1) c.visit.new.states.items c.visit.new.exits c.in-Some.begins c.in-Some.known = rw (end, c.in-Some.is) at (c.in-Ok.ensures.gone (passage_of c.args.passage) c.args.states.now.items (c.from-end.result - 1) refl c.loop-pc.invariant.1 c.loop-pc.invariant.0) in
    let begins = callee_begins c.args.layout.now.image.now (calls_of c.args.layout.now.image.now (passage_of c.args.passage)) (passage_of c.args.passage) c.args.states.now.items c.visit.new.states.items c.loop-pc.pc c.in-Some.begins c.visit.new.exits c.in-Some.known passed c.requires.inside c.loop-pc.invariant.1 lt h in
    (omega (arith, h.deep, c.decreases), (c.requires.few, (begins.0, (h.long ∙ h.gone_to.same_length, (begins.1, omega (arith, h.deep))))))

pub returns-in-Err-clause-comes : goal.returns-in-Err-clause-comes
returns-in-Err-clause-comes t c =
    let end : c.from-end.result ≡ function_end c.args.layout.now.image.now c.args.passage.entry = c.from-end.ensures ∙ c.args.layout.now.ended.1 c.args.passage.entry c.requires.inside in
    let most = end_inside c.args.layout.now.image.now c.args.passage.entry c.requires.inside in
    let lt : c.loop-pc.pc < function_end c.args.layout.now.image.now c.args.passage.entry = omega (arith, end, c.loop-pc-test.true) in
    elim (c.in-Err.ensures.gone (passage_of c.args.passage) c.args.states.now.items (c.from-end.result - 1) refl c.loop-pc.invariant.1 c.loop-pc.invariant.0) [
      | inl memory ↦ inl memory
      | inr here ↦ inr (broken_outcome c.args.layout.now.image.now (passage_of c.args.passage) c.loop-pc.pc c.in-Err.refusal (omega (arith, lt, most)) here)
    ]

pub returns-in-Err-go_through-clause-comes : goal.returns-in-Err-go_through-clause-comes
returns-in-Err-go_through-clause-comes t c =
    let end : c.from-end.result ≡ function_end c.args.layout.now.image.now c.args.passage.entry = c.from-end.ensures ∙ c.args.layout.now.ended.1 c.args.passage.entry c.requires.inside in
    let most = end_inside c.args.layout.now.image.now c.args.passage.entry c.requires.inside in
    let lt : c.loop-pc.pc < function_end c.args.layout.now.image.now c.args.passage.entry = omega (arith, end, c.loop-pc-test.true) in
    let h : IsAtCall c.args.layout.now.image.now (calls_of c.args.layout.now.image.now (passage_of c.args.passage)) (passage_of c.args.passage) c.args.states.now.items c.loop-pc.pc (function_end c.args.layout.now.image.now c.args.passage.entry - 1) c.visit.new.states.items c.visit.new.exits c.in-Some.begins c.in-Some.known = rw (end, c.in-Some.is) at (c.in-Ok.ensures.gone (passage_of c.args.passage) c.args.states.now.items (c.from-end.result - 1) refl c.loop-pc.invariant.1 c.loop-pc.invariant.0) in
    elim c.in-Err-go_through.ensures.comes [
      | inl memory ↦ inl memory
      | inr is ↦ inr (broken c.args.layout.now.image.now (passage_of c.args.passage) c.args.states.now.items c.visit.new.states.items c.loop-pc.pc (function_end c.args.layout.now.image.now c.args.passage.entry - 1) c.in-Some.begins (c.args.passage.frame + 1) c.visit.new.exits c.in-Some.known c.in-Err-go_through.refusal (omega (arith, lt, most)) h refl is)
    ]

pub go_on_after-requires-clause-near : goal.go_on_after-requires-clause-near
go_on_after-requires-clause-near t c =
    let end : c.from-end.result ≡ function_end c.args.layout.now.image.now c.args.passage.entry = c.from-end.ensures ∙ c.args.layout.now.ended.1 c.args.passage.entry c.requires.inside in
    let most = end_inside c.args.layout.now.image.now c.args.passage.entry c.requires.inside in
    let lt : c.loop-pc.pc < function_end c.args.layout.now.image.now c.args.passage.entry = omega (arith, end, c.loop-pc-test.true) in
    omega (arith, lt, most, c.requires.few)

pub go_on_after-requires-clause-inside : goal.go_on_after-requires-clause-inside
go_on_after-requires-clause-inside t c =
    let end : c.from-end.result ≡ function_end c.args.layout.now.image.now c.args.passage.entry = c.from-end.ensures ∙ c.args.layout.now.ended.1 c.args.passage.entry c.requires.inside in
    let passed : Flows c.args.layout.now.image.now = record { decodes = c.args.layout.now.decodes; flow = c.args.layout.now.flows } in
    let h : IsAtCall c.args.layout.now.image.now (calls_of c.args.layout.now.image.now (passage_of c.args.passage)) (passage_of c.args.passage) c.args.states.now.items c.loop-pc.pc (function_end c.args.layout.now.image.now c.args.passage.entry - 1) c.visit.new.states.items c.visit.new.exits c.in-Some.begins c.in-Some.known = rw (end, c.in-Some.is) at (c.in-Ok.ensures.gone (passage_of c.args.passage) c.args.states.now.items (c.from-end.result - 1) refl c.loop-pc.invariant.1 c.loop-pc.invariant.0) in
    let behind = behind_inside c.args.layout.now.image.now c.loop-pc.pc h.distance passed h.found in
    let size : length c.go_through.new.states.items ≡ units c.args.layout.now.image.now = c.in-Ok-go_through.ensures.same_length ∙ h.long ∙ h.gone_to.same_length in
    omega (arith, behind, size)

pub loop-pc-preserved : goal.loop-pc-preserved
loop-pc-preserved t c =
    let end : c.from-end.result ≡ function_end c.args.layout.now.image.now c.args.passage.entry = c.from-end.ensures ∙ c.args.layout.now.ended.1 c.args.passage.entry c.requires.inside in
    let most = end_inside c.args.layout.now.image.now c.args.passage.entry c.requires.inside in
    let lt : c.loop-pc.pc < function_end c.args.layout.now.image.now c.args.passage.entry = omega (arith, end, c.loop-pc-test.true) in
    let passed : Flows c.args.layout.now.image.now = record { decodes = c.args.layout.now.decodes; flow = c.args.layout.now.flows } in
    elim c.match-opened.branch [
      | in-Some+in-Ok-go_through w ↦
          (let h : IsAtCall c.args.layout.now.image.now (calls_of c.args.layout.now.image.now (passage_of c.args.passage)) (passage_of c.args.passage) c.args.states.now.items c.loop-pc.pc (function_end c.args.layout.now.image.now c.args.passage.entry - 1) c.visit.new.states.items c.visit.new.exits w.in-Some.begins w.in-Some.known = rw (end, w.in-Some.is) at (c.in-Ok.ensures.gone (passage_of c.args.passage) c.args.states.now.items (c.from-end.result - 1) refl c.loop-pc.invariant.1 c.loop-pc.invariant.0) in
          let all : IsGoneTo c.args.layout.now.image.now (calls_of c.args.layout.now.image.now (passage_of c.args.passage)) (passage_of c.args.passage) c.args.states.now.items (c.loop-pc.pc + 1) (function_end c.args.layout.now.image.now c.args.passage.entry - 1) w.go_on_after.new.states.items c.visit.new.exits = returned c.args.layout.now.image.now (passage_of c.args.passage) c.args.states.now.items c.visit.new.states.items w.go_through.new.states.items w.go_on_after.new.states.items c.loop-pc.pc w.in-Some.begins (c.args.passage.frame + 1) c.visit.new.exits w.in-Some.known w.in-Ok-go_through.left passed c.requires.inside c.loop-pc.invariant.1 lt h refl w.in-Ok-go_through.ensures.comes w.in-Ok-go_through.ensures.same_length w.in-Ok-go_through.ensures.before w.go_on_after.ensures.same_length w.go_on_after.ensures.gone in
          (rw (end, w.states-is) all, omega (arith, c.loop-pc.invariant.1), omega (arith, c.loop-pc-test.true)))
      | in_default w ↦
          (let h = rw (end, w.in_default.is) at (c.in-Ok.ensures.gone (passage_of c.args.passage) c.args.states.now.items (c.from-end.result - 1) refl c.loop-pc.invariant.1 c.loop-pc.invariant.0) in
          let all : IsGoneTo c.args.layout.now.image.now (calls_of c.args.layout.now.image.now (passage_of c.args.passage)) (passage_of c.args.passage) c.args.states.now.items (c.loop-pc.pc + 1) (function_end c.args.layout.now.image.now c.args.passage.entry - 1) c.visit.new.states.items c.visit.new.exits = h (function_end c.args.layout.now.image.now c.args.passage.entry - 1) (omega arith) (reaches_end c.args.layout.now.image.now c.args.passage.entry c.loop-pc.pc passed c.requires.inside c.loop-pc.invariant.1 lt) in
          (rw (end, w.states-is) all, omega (arith, c.loop-pc.invariant.1), omega (arith, c.loop-pc-test.true)))
    ]

pub returns-clause-comes : goal.returns-clause-comes
returns-clause-comes t c =
    let end : c.from-end.result ≡ function_end c.args.layout.now.image.now c.args.passage.entry = c.from-end.ensures ∙ c.args.layout.now.ended.1 c.args.passage.entry c.requires.inside in
    let most = end_inside c.args.layout.now.image.now c.args.passage.entry c.requires.inside in
    let at_end : c.loop-pc.pc ≡ c.from-end.result = omega (arith, c.loop-pc.invariant.2, c.loop-pc-test.false) in
    through c.args.layout.now.image.now (calls_of c.args.layout.now.image.now (passage_of c.args.passage)) (passage_of c.args.passage) c.args.states.now.items c.loop-pc.states.items c.loop-pc.pc (c.from-end.result - 1) c.loop-pc.exits (omega (arith, at_end, end, most)) (omega (arith, at_end, end, end_behind c.args.layout.now.image.now c.args.passage.entry)) c.loop-pc.invariant.0

pub returns-clause-before : goal.returns-clause-before
returns-clause-before t c =
    let end : c.from-end.result ≡ function_end c.args.layout.now.image.now c.args.passage.entry = c.from-end.ensures ∙ c.args.layout.now.ended.1 c.args.passage.entry c.requires.inside in
    let at_end : c.from-end.result ≤ c.loop-pc.pc = omega (arith, c.loop-pc-test.false) in
    as_before c.args.layout.now.image.now (calls_of c.args.layout.now.image.now (passage_of c.args.passage)) (passage_of c.args.passage) c.args.states.now.items c.loop-pc.states.items c.loop-pc.pc (c.from-end.result - 1) c.loop-pc.exits (omega (arith, at_end, end, end_behind c.args.layout.now.image.now c.args.passage.entry)) c.loop-pc.invariant.1 c.requires.clear c.loop-pc.invariant.0
