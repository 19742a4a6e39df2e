-- One pc of a passage, by what its instruction leads to.
use Rattle.std.proofs.Common.{◌≡◌, ◌≢◌, ℕ, ◌+◌, ◌<◌, ◌≤◌, [], ◌∷◌, ◌++◌, length, Option, Some, None, Ok, Err, get_or, set, refl, sym, ap, subst, ◌∙◌, arith, inl, inr, ◌⊎◌}
use Rattle.std.specs.Prelude.{ℤ, pos}
use Rattle.bpf_isa.specs.declared.instruction.Instruction.{Instruction}
use Rattle.bpf_isa.specs.declared.instruction.Instruction.TheVariants.{CallLocal, Exit}
use Rattle.bpf_image.specs.Program.{Program, units, lengths_of}
use Rattle.bpf_image.specs.declared.lengths.Lengths.{Lengths}
use Rattle.bpf_model.specs.declared.cause.Cause.{Cause}
use Rattle.abstract_values.specs.declared.value.AbstractValue.{AbstractValue}
use Rattle.abstract_values.specs.declared.value.AbstractValue.TheVariants.{Unset, Number, Record, Stack, Table}
use Rattle.abstract_state.specs.States.{AbstractState}
use Rattle.verifier.specs.declared.refusal.Refusal.{Refusal}
use Rattle.verifier.specs.Rules.{Ways, exit_ways, transfer}
use Rattle.verifier.specs.Described.{IsWay}
use Rattle.verifier.specs.Listing.{instruction_at}
use Rattle.verifier.specs.Walks.{next_pcs, IsOneOf}
use Rattle.verifier.specs.Equations.{Passage, Calls, left_by, joined_ways, known_ways, opening, outcome_at, ways_after, states, first_refusal, refusal_at, joined_exit, outcome, calls_of}
use Rattle.verifier.specs.Tables.{state_at, Reaches, IsGoneTo}
use Rattle.verifier.proofs.Arrivals.{States}
use Rattle.verifier.proofs.RuleParts.{ok}
use Rattle.verifier.proofs.Flowing.{Flows, ahead}
use Rattle.verifier.proofs.WaysAhead.{ways_lead}
use Rattle.verifier.specs.Known.{IsBrokenAt}
use Rattle.verifier.proofs.Passages.{stepped, refused_outcome}

-- the table has what has come to a pc
pub has_come : (p : Program) (calls : Calls) (v : Passage) (old before : States) (n last : ℕ) (exits : Option AbstractState) (b : AbstractState) → n < units p → IsGoneTo p calls v old n last before exits → get_or before n None ≡ Some b → states p calls v n ≡ Some b
has_come p calls v old before n last exits b lt h is = sym (h.come_to n (omega arith) lt) ∙ is

either_way : (w : ℤ × AbstractState) (xs ys : Ways) → IsWay w (xs ++ ys) → IsWay w xs ⊎ IsWay w ys
either_way w [] ys m = inr m
either_way w (x ∷ xs) ys m =
    elim m [
      | inl is ↦ inl (inl is)
      | inr rest ↦ elim (either_way w xs ys rest) [ inl left ↦ inl (inr left) | inr right ↦ inr right ]
    ]

after_leads : (n : ℕ) (o : Option AbstractState) (w : ℤ × AbstractState) → IsWay w (ways_after n (Ok o)) → (b : AbstractState) × (o ≡ Some b) × (w.0 ≡ pos (n + 1))
after_leads n None w m = absurd m
after_leads n (Some b) w m = elim m [ inl is ↦ (b, refl, ap (λ (x : ℤ × AbstractState). x.0) is) | inr none ↦ absurd none ]

-- what is walked at a pc, whatever it is: its rules hold, and so do those of what it calls
pub walked_step : (p : Program) (calls : Calls) (v : Passage) (old before after : States) (n last further : ℕ) (exits more : Option AbstractState) (i : Instruction) (s : AbstractState) (ws : Ways) (o : Option AbstractState)
    → Flows p → v.entry ≤ n → n < units p → IsGoneTo p calls v old n last before exits
    → instruction_at p n ≡ Some i → states p calls v n ≡ Some s → transfer (lengths_of p) n i s ≡ ok ws → outcome_at calls (opening v n i s) ≡ Ok o
    → ((b : AbstractState) → o ≡ Some b → IsOneOf (pos (n + 1)) (next_pcs i n))
    → more ≡ joined_exit v exits (Some i) (Some s)
    → last ≤ further → Reaches p n further
    → length after ≡ length before → ((q : ℕ) → state_at after q ≡ joined_ways (state_at (set before n None) q) (ws ++ ways_after n (Ok o)) q) → IsGoneTo p calls v old (n + 1) further after more
walked_step p calls v old before after n last further exits more i s ws o flows in_function lt h found walked goes comes behind left far reaches long came =
    let ways : known_ways p calls v n (instruction_at p n) (states p calls v n) ≡ ws ++ ways_after n (Ok o) = rw (found, walked, goes, comes) refl in
    let fine : refusal_at p calls v n (instruction_at p n) (states p calls v n) ≡ None = rw (found, walked, goes, comes) refl in
    let leaves : more ≡ joined_exit v exits (instruction_at p n) (states p calls v n) = rw (found, walked) left in
    let to : (z : ℤ) → IsOneOf z (next_pcs i n) → (q : ℕ) × (z ≡ pos q) × (n < q) × (q ≤ further) = λ z one. (let there = ahead p n i z flows found one in (there.place, there.is, there.behind, reaches i found there.place (subst (λ y. IsOneOf y (next_pcs i n)) there.is one))) in
    let lead : (w : ℤ × AbstractState) → IsWay w (ws ++ ways_after n (Ok o)) → (q : ℕ) × (w.0 ≡ pos q) × (n < q) × (q ≤ further) = λ w m. elim (either_way w ws (ways_after n (Ok o)) m) [
      | inl by ↦ to w.0 (ways_lead (lengths_of p) n i s ws goes w by)
      | inr by ↦ (let b = after_leads n o w by in to w.0 (subst (λ y. IsOneOf y (next_pcs i n)) (sym b.2) (behind b.0 b.1)))
    ] in
    stepped p calls v old before after n last further exits more (ws ++ ways_after n (Ok o)) in_function lt h ways fine leaves lead far long came

no_more : (ws : Ways) → ws ++ [] ≡ ws
no_more [] = refl
no_more (w ∷ ws) = ap (λ rest. w ∷ rest) (no_more ws)

not_exit : (v : Passage) (known : Option AbstractState) (i : Instruction) (s : AbstractState) → i ≢ Exit → joined_exit v known (Some i) (Some s) ≡ known
not_exit v known Exit s other = absurd (other refl)
not_exit v known _ s other = refl

no_opening : (v : Passage) (n : ℕ) (i : Instruction) (s : AbstractState) → ((z : ℤ) → i ≢ CallLocal z) → opening v n i s ≡ None
no_opening v n (CallLocal z) s other = absurd (other z refl)
no_opening v n _ s other = refl

-- an instruction that neither exits nor calls
pub plain_step : (p : Program) (calls : Calls) (v : Passage) (old before after : States) (n last further : ℕ) (exits : Option AbstractState) (i : Instruction) (s : AbstractState) (ws : Ways)
    → Flows p → v.entry ≤ n → n < units p → IsGoneTo p calls v old n last before exits
    → instruction_at p n ≡ Some i → states p calls v n ≡ Some s → transfer (lengths_of p) n i s ≡ ok ws → i ≢ Exit → ((z : ℤ) → i ≢ CallLocal z)
    → last ≤ further → Reaches p n further
    → length after ≡ length before → ((q : ℕ) → state_at after q ≡ joined_ways (state_at (set before n None) q) ws q) → IsGoneTo p calls v old (n + 1) further after exits
plain_step p calls v old before after n last further exits i s ws flows in_function lt h found walked goes stays uncalled far reaches long came =
    let comes : outcome_at calls (opening v n i s) ≡ Ok None = ap (outcome_at calls) (no_opening v n i s uncalled) in
    let all : ws ++ ways_after n (Ok None) ≡ ws = no_more ws in
    walked_step p calls v old before after n last further exits exits i s ws None flows in_function lt h found walked goes comes (λ b e. absurd (let none : None ≡ Some b = e in cc)) (sym (not_exit v exits i s stays)) far reaches long (λ q. came q ∙ ap (λ l. joined_ways (state_at (set before n None) q) l q) (sym all))

exit_goes : (l : Lengths) (n : ℕ) (s : AbstractState) (ws : Ways) → transfer l n Exit s ≡ ok ws → [] ≡ ws
unfolding transfer
exit_goes l n s ws h = exit_none (get_or s.registers 0 Unset) ws h
  where
    exit_none : (x : AbstractValue) (ws : Ways) → exit_ways x ≡ ok ws → [] ≡ ws
    exit_none Unset ws h = absurd cc
    exit_none (Number lo hi) ws h = (let e : ok [] ≡ ok ws = h in cc)
    exit_none (Record lo hi) ws h = absurd cc
    exit_none (Stack frame offset) ws h = absurd cc
    exit_none (Table lo hi) ws h = absurd cc

-- an exit
pub exit_step : (p : Program) (calls : Calls) (v : Passage) (old before after : States) (n last further : ℕ) (exits more : Option AbstractState) (s : AbstractState) (ws : Ways)
    → Flows p → v.entry ≤ n → n < units p → IsGoneTo p calls v old n last before exits
    → instruction_at p n ≡ Some Exit → states p calls v n ≡ Some s → transfer (lengths_of p) n Exit s ≡ ok ws
    → more ≡ left_by v.frame exits s
    → last ≤ further → Reaches p n further
    → length after ≡ length before → ((q : ℕ) → state_at after q ≡ state_at (set before n None) q) → IsGoneTo p calls v old (n + 1) further after more
exit_step p calls v old before after n last further exits more s ws flows in_function lt h found walked goes left far reaches long came =
    let none : [] ≡ ws = exit_goes (lengths_of p) n s ws goes in
    let all : ws ++ ways_after n (Ok None) ≡ [] = no_more ws ∙ sym none in
    walked_step p calls v old before after n last further exits more Exit s ws None flows in_function lt h found walked goes refl (λ b e. absurd (let none2 : None ≡ Some b = e in cc)) left far reaches long (λ q. came q ∙ ap (λ l. joined_ways (state_at (set before n None) q) l q) (sym all))

call_goes : (l : Lengths) (n : ℕ) (z : ℤ) (s : AbstractState) → transfer l n (CallLocal z) s ≡ ok []
unfolding transfer
call_goes l n z s = refl

-- a call, where it is known what comes of it
pub call_step : (p : Program) (calls : Calls) (v : Passage) (old before after : States) (n last further : ℕ) (exits : Option AbstractState) (z : ℤ) (s : AbstractState) (o : Option AbstractState)
    → Flows p → v.entry ≤ n → n < units p → IsGoneTo p calls v old n last before exits
    → instruction_at p n ≡ Some (CallLocal z) → states p calls v n ≡ Some s → outcome_at calls (opening v n (CallLocal z) s) ≡ Ok o
    → last ≤ further → Reaches p n further
    → length after ≡ length before → ((q : ℕ) → state_at after q ≡ joined_ways (state_at (set before n None) q) (ways_after n (Ok o)) q) → IsGoneTo p calls v old (n + 1) further after exits
call_step p calls v old before after n last further exits z s o flows in_function lt h found walked comes far reaches long came =
    walked_step p calls v old before after n last further exits exits (CallLocal z) s [] o flows in_function lt h found walked (call_goes (lengths_of p) n z s) comes (λ b e. inl refl) refl far reaches long came

-- a broken rule
pub rule_broken : (p : Program) (v : Passage) (old before : States) (n last : ℕ) (exits : Option AbstractState) (i : Instruction) (s : AbstractState) (cause : Cause)
    → IsGoneTo p (calls_of p v) v old n last before exits → instruction_at p n ≡ Some i → states p (calls_of p v) v n ≡ Some s → transfer (lengths_of p) n i s ≡ Err cause
    → IsBrokenAt p v n (record { cause = cause; pc = n })
rule_broken p v old before n last exits i s cause h found walked fails =
    record { fine = h.fine; broken = (rw (found, walked, fails) refl); here = refl }

-- is what comes of the passage
pub broken_outcome : (p : Program) (v : Passage) (n : ℕ) (r : Refusal) → n < units p → IsBrokenAt p v n r → outcome p (calls_of p v) v ≡ Err r
broken_outcome p v n r lt h = refused_outcome p (calls_of p v) v n r lt h.fine h.broken

-- a rule that is broken in a function that is called
pub call_broken : (p : Program) (calls : Calls) (v : Passage) (n : ℕ) (z : ℤ) (s : AbstractState) (r : Refusal)
    → n < units p → first_refusal p calls v n ≡ None → instruction_at p n ≡ Some (CallLocal z) → states p calls v n ≡ Some s → outcome_at calls (opening v n (CallLocal z) s) ≡ Err r
    → outcome p calls v ≡ Err r
call_broken p calls v n z s r lt fine found walked fails =
    refused_outcome p calls v n r lt fine (rw (found, walked, call_goes (lengths_of p) n z s, fails) refl)
