-- `into_raw` compares the pointer with null. An empty handle owns nothing besides; of another the box goes to the result.
use mathlib.Core.Path.{◌≡◌, refl, sym, subst}
use mathlib.Core.List.{List, [], ◌∷◌, ◌++◌}
use lib.Dec.{T, lit<}
use seplogic.Ra.Ura.{Ura}
use mir.Raw.{raw as bare}
use mir.Val.{Val, vcons, vnil, has_ty, WT}
use base.Logic.{SProp, ent, sep, emp, id⊢, via, guard, guard_i, snd∗, fst∗, never}
use base.Fraction.{full_share}
use base.Fml.{Fml, ftrue, fsep, feq}
use prog.Memory.{Memory}
use prog.Routine.{Routine}
use prog.Wp.{WpFn, Tables}
use types.Logic.{Logic, sem}
use contract.Monad.{Fun, fact_use}
use contract.Running.{tables, tables_of}
use sound.WpLaws.{WpFn-mono}
use types.Kit.{‵, raw, ◌⊛◌, given, at_ret, ◌$◌, ◌∵◌, !, qed, by, keep, drop, use0, use1, learn, join, split, fsplit, fjoin, feq_l, suffices, done}
use types.Part.{whole, sub, agg}
use types.Match.{live}
use types.Run.{stop, fld, lit, bin, no_more, and_then, of_opd, first, branches, exec, returns, enter}
use types.ByLocal.{alloc_all, pass_all, free_all, look_at, get, get_in, sets, sets_last, env}
use denote.Exit.{yes}
use denote.RattleType.{RattleType}
use denote.RawPtr.{Ptr, block_ptr, null_ptr, Testable, tests_null, in_a_block, lies_at}
use denote.Param.{layout}
use denote.Signature.{type_at}
use denote.Steps.{nothing}
use denote.Triple.Spec.{triple_of}
use denote.Triple.Table.{entered}
use denote.Triple.Walked.{says, Stays, stay_dropped, walk_of, ends_at, Goes-dropped, walk_Meets}
use Rattle.core.specs.declared.option.Option.{Option}
use Rattle.core.specs.declared.option.Option.TheVariants.{None, Some}
use Rattle.core.proofs.alloc.Calls.{Fits, token}
use Rattle.core.proofs.alloc.Shapes.{after}
use Rattle.core.proofs.option.Made.{Some-of, none_of}
use Rattle.std_alloc.proofs.BoxSteps.Form.{D, R, X, τ, handle, word, box_typed}
use Rattle.std_alloc.proofs.BoxSteps.Steps.{box_in}
use Rattle.std_alloc.proofs.ResultValues.{and_tt}
use Rattle.std_alloc.specs.Box.Ownership.{box_owns}
use Rattle.std_heap.proofs.GlobalToken.{dealloc_token-Testable}
use Rattle.std_heap.specs.declared.Global.{Global}
use Rattle.embedding.specs.Handle.{handle_owns}
use Rattle.embedding.proofs.Boxes.{E, Raw, Handle, FromHandle, two, null_typed, handle_out}
use Rattle.embedding.specs.contracts.handle.Handle.into_raw as F
use Rattle.embedding.specs.contracts.handle.Handle.into_raw.Key.{name as #self}
use Rattle.embedding.proofs.handle.Handle.into_raw.Statement as stated
use Rattle.embedding.proofs.handle.Handle.into_raw.Code as code

abbrev stayed : Stays (F.ended).signature.params (F.ended).kept
stayed = (stay_dropped FromHandle yes, tt)

abbrev Out : RattleType
Out = type_at (F.signature).result tt

abbrev Owned : Global → Ptr → X E → Fml
Owned a p x = box_owns (token E.al a) (R E) p x

module _ {M : Type 1} {𝓤 : Ura M} (𝓛 : Logic 𝓤) (at_mem : Memory → SProp 𝓤) (run : Routine → Fun 𝓤) (𝓣 : Tables 𝓤 𝓛.H) where
  open 𝓛 use {H}

  -- what owns a block says that its pointer may be compared with null
  comparable : (a : Global) (p : Ptr) (x : X E) → ent 𝓤 (sem 𝓛 (Owned a p x)) (guard 𝓤 (Testable p) (sem 𝓛 (Owned a p x)))
  comparable a p x =
      fact_use 𝓤 (Testable p)
      (via 𝓤 _ (snd∗ 𝓤 (sem 𝓛 (lies_at (R E) full_share p x)) (sem 𝓛 (token E.al a (bare (τ E)) p))) (dealloc_token-Testable 𝓛 a (bare (τ E)) p))
      (guard_i 𝓤 (Testable p) (sem 𝓛 (Owned a p x)))

  module _ (z : (walk_of 𝓛 F.ended stayed (F.clauses 𝓛 at_mem run)).Ghost) where
    abbrev d : Handle.Denot
    d = z.0.3.0

    abbrev us : List Val
    us = z.0.4.0

    abbrev Post : Val → SProp 𝓤
    Post = (walk_of 𝓛 F.ended stayed (F.clauses 𝓛 at_mem run)).post z

    abbrev Run : List Val → SProp 𝓤
    Run vs = WpFn 𝓤 H 𝓣.C 𝓣.Λ code.function (vs ++ []) Post

    runs_at : (w : Val) → us ≡ w ∷ [] → (Γ : SProp 𝓤) → ent 𝓤 Γ (Run (w ∷ [])) → ent 𝓤 Γ (Run us)
    runs_at w is Γ goes = subst (λ (vs : List Val). ent 𝓤 Γ (Run vs)) (sym is) goes

    from : (o : Option (X E)) → d.held ≡ o → (hv : Val) → us ≡ two d.at hv ∷ [] → Fits E.al hv
        → ent 𝓤 (sep 𝓤 (sem 𝓛 (handle_owns d.alloc d.at o)) (sem 𝓛 (handle E d.alloc hv))) (Run us)
    from None none hv ws fits =
        qed 𝓛 (‵ (feq Ptr d.at null_ptr) ∷ ‵ (handle E d.alloc hv) ∷ []) ∵ feq_l ! (λ null.
        let w = two null_ptr hv in
        by ! (runs_at w (subst (λ (q : Ptr). us ≡ two q hv ∷ []) null ws) _ (qed 𝓛 (‵ (handle E d.alloc hv) ∷ []) ∵
        enter ! 𝓣.C 𝓣.Λ code.function (w ∷ []) Post $ alloc_all ! (λ ls. let Ev = env (code.function).locals ls in
        pass_all ! refl (null_typed hv fits, tt) $
        sets ! (of_opd ! (get_in ! (fld ! refl (stop !)) (sub ! 0 refl (whole !)))) refl (tt, record { fits = lit< tt }) $
        sets ! (of_opd ! (get_in ! (fld ! refl (stop !)) (sub ! 1 refl (whole !)))) refl fits $
        sets ! (bin ! (get ! refl) (lit ! tt) tt) refl (tt, tt) $
        first ! $ branches ! (get ! refl)
        (λ _. sets_last ! (agg ! (and_then ! (lit ! tt) (no_more !))) refl (tt, (record { fits = lit< tt }, tt)) $
        exec ! 𝓣.C 𝓣.Λ Ev (after 4 (code.function).body) (at_ret Ev Post) $
        sets ! (of_opd ! (get ! refl)) refl (tt, (record { fits = lit< tt }, tt)) $
        use0 𝓛 (‵ (Out.own_val None (live 0 vnil ∷ []))) (none_of 𝓛 Raw) $
        returns ! (look_at ! 0 refl) $ free_all ! refl $ keep ! (0 ∷ []) $
        suffices ! _ (ends_at 𝓛 F.ended stayed (F.clauses 𝓛 at_mem run) z (live 0 vnil) None (tt, tt) (tt, tt)) $ says ! none $
        nothing ! $ nothing ! $ fjoin ! $ join ! $ nothing ! $ join ! $ done !)
        (λ wrong. absurd wrong)))))
    from (Some x) some hv ws fits =
        qed 𝓛 (‵ (Owned d.alloc d.at x) ∷ ‵ (handle E d.alloc hv) ∷ []) ∵
        in_a_block ! d.at (λ q. Owned d.alloc q x) (fst∗ 𝓤 (never 𝓤) (sem 𝓛 (token E.al d.alloc (bare (τ E)) null_ptr))) (λ b o at_block.
        use1 𝓛 (given (Testable (block_ptr b o)) (‵ (Owned d.alloc (block_ptr b o) x))) (comparable d.alloc (block_ptr b o) x) $ learn ! (λ may.
        let w = word E hv b o in
        by ! (runs_at w (subst (λ (q : Ptr). us ≡ two q hv ∷ []) at_block ws) _ (qed 𝓛 (‵ (Owned d.alloc (block_ptr b o) x) ∷ ‵ (handle E d.alloc hv) ∷ []) ∵
        enter ! 𝓣.C 𝓣.Λ code.function (w ∷ []) Post $ alloc_all ! (λ ls. let Ev = env (code.function).locals ls in
        let typed = box_typed E hv b o fits in
        let whole_box : D E = record { ptr = block_ptr b o; alloc = d.alloc; value = x } in
        let made : Raw.Denot = record { at = block_ptr b o; alloc = d.alloc; value = x } in
        let out : Val = live 1 (vcons w vnil) in
        let good : T (has_ty (layout Out) out) × WT out = (and_tt _ typed.0, (record { fits = lit< tt }, (typed.1, tt))) in
        pass_all ! refl (typed, tt) $
        sets ! (of_opd ! (get_in ! (fld ! refl (stop !)) (sub ! 0 refl (whole !)))) refl (tt, tt) $
        sets ! (of_opd ! (get_in ! (fld ! refl (stop !)) (sub ! 1 refl (whole !)))) refl fits $
        sets ! (bin ! (get ! refl) (lit ! tt) (tests_null (block_ptr b o) may)) refl (tt, tt) $
        first ! $ branches ! (get ! refl) (λ wrong. absurd wrong)
        (λ _. sets ! (of_opd ! (get ! refl)) refl (tt, tt) $
        sets ! (agg ! (and_then ! (get ! refl) (and_then ! (get ! refl) (no_more !)))) refl typed $
        sets_last ! (agg ! (and_then ! (lit ! tt) (and_then ! (get ! refl) (no_more !)))) refl good $
        exec ! 𝓣.C 𝓣.Λ Ev (after 4 (code.function).body) (at_ret Ev Post) $
        sets ! (of_opd ! (get ! refl)) refl good $
        fsplit ! $ box_in E ! whole_box b o x refl refl $ use1 𝓛 (‵ (Raw.own_val made (w ∷ []))) (id⊢ 𝓤 _) $
        use1 𝓛 (‵ (Out.own_val (Some made) (out ∷ []))) (Some-of 𝓛 Raw made w) $
        returns ! (look_at ! 0 refl) $ free_all ! refl $
        suffices ! _ (ends_at 𝓛 F.ended stayed (F.clauses 𝓛 at_mem run) z out (Some made) (tt, tt) (tt, tt)) $ says ! some $
        nothing ! $ nothing ! $ fjoin ! $ join ! $ nothing ! $ join ! $ done !))))))

    walk : ent 𝓤 ((walk_of 𝓛 F.ended stayed (F.clauses 𝓛 at_mem run)).pre z) (Run us)
    walk =
        qed 𝓛 ((‵ ftrue ⊛ ‵ (fsep (Handle.own_val d us) ftrue)) ∷ raw (emp 𝓤) ∷ []) ∵ split ! $ drop ! $ fsplit ! $
        handle_out ! d us (λ hv ws fits. keep ! (0 ∷ 1 ∷ []) $ by ! (from d.held refl hv ws fits))

pub into_raw_spec : {M : Type 1} → stated.statement M
unfolding tables_of
into_raw_spec 𝓤 𝓛 𝓜 𝓡 wired =
    let 𝓣 : Tables 𝓤 𝓛.H = tables_of 𝓤 𝓛.H 𝓜 (tables 𝓤 𝓛.H 𝓜 𝓡 𝓡.env) in
    entered 𝓤 𝓛.H (triple_of 𝓛 F.signature (F.spec 𝓛 𝓜.mem 𝓡.returns)) 𝓣.C 𝓣.Λ #self code.function (code.unfolded 𝓤 𝓛.H 𝓜 𝓡 wired)
    (walk_Meets 𝓛 F.ended stayed (Goes-dropped 𝓛 0 FromHandle yes (λ κs x f. refl), tt) (F.clauses 𝓛 𝓜.mem 𝓡.returns) (WpFn 𝓤 𝓛.H 𝓣.C 𝓣.Λ code.function) (WpFn-mono 𝓤 𝓛.H 𝓛.laws 𝓣 code.function)
    (λ z. walk 𝓛 𝓜.mem 𝓡.returns 𝓣 z))
