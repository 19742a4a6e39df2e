-- The call hands out the pointer and the handle of the allocator, with the block; the struct is made of the two.
use mathlib.Core.Path.{◌≡◌, refl, sym, subst, ap, ◌∙◌}
use mathlib.Core.List.{List, [], ◌∷◌, ◌++◌}
use seplogic.Ra.Ura.{Ura}
use mir.Syntax.{Fn, Args, Dict, a_type, dcons, dnil}
use mir.MapTy.{inst_fn}
use mir.Raw.{raw as bare}
use mir.Val.{Val, vstruct, of_list}
use base.Logic.{SProp, ent, id⊢, never, fst∗}
use base.Fml.{ftrue, fsep, flft}
use contract.BorrowLft.{◌⊑◌}
use prog.Memory.{Memory}
use prog.Routine.{Routine}
use prog.Wp.{WpFn, Tables}
use types.Logic.{Logic, sem}
use contract.Monad.{Fun, fact}
use contract.Running.{tables, tables_of}
use sound.WpLaws.{fm_of, WpFn-mono}
use types.Kit.{Item, ‵, raw, ◌⊛◌, some, later, ◌$◌, ◌∵◌, !, qed, by, move, drop, use1, join, split, split3, pick, rewrite, fsplit, fjoin, fpick, feq_l, suffices, await, done}
use types.Part.{whole, sub, agg}
use types.Run.{stop, fld, no_more, and_then, of_opd, returns, enter}
use types.ByLocal.{alloc_all, pass_all, free_all, look_at, get, get_in, sets, lands_as}
use denote.RattleType.{RattleType}
use denote.Exit.{no}
use denote.Param.{bounded}
use denote.RawPtr.{Ptr, RawPtr, block_ptr, null_ptr, ptr_val, in_a_block}
use denote.Signature.{plain}
use denote.Steps.{heard, nothing, only}
use denote.Struct.Tuple.{Tuple}
use denote.Triple.Call.{calls_at}
use denote.Triple.Clauses.{Ended, Clauses}
use denote.Triple.Spec.{triple_of}
use denote.Triple.Statement.{Triple, Contract}
use denote.Triple.Table.{entered}
use denote.Triple.Walked.{says, Stays, stay_dropped, walk_of, ends_at, walk_Meets}
use Rattle.core.proofs.alloc.Calls.{token, handle_tells, Goes-blank}
use Rattle.std_alloc.specs.Box.Ownership.{box_owns}
use Rattle.std_alloc.proofs.BoxSteps.Form.{Bx, D, τ, R, P, B, word, box_typed}
use Rattle.std_alloc.proofs.BoxSteps.Steps.{box_out, box_in}
use Rattle.embedding.specs.contracts.raw_box.RawBox as raw_box
use Rattle.std_alloc.specs.contracts.boxed.Box.into_raw_with_allocator as Ra
use Rattle.std_alloc.proofs.boxed.Box.into_raw_with_allocator.Symbol as raw_sym
use Rattle.std_alloc.proofs.boxed.Box.into_raw_with_allocator.Met as raw_met
use Rattle.embedding.specs.contracts.raw_box.RawBox.of as F
use Rattle.embedding.specs.contracts.raw_box.RawBox.of.Key.{name as #self}
use Rattle.embedding.proofs.raw_box.RawBox.of.Statement as stated
use Rattle.embedding.proofs.raw_box.RawBox.of.Code as code

module _ (Boxed : Bx) (dx : Dict) where
  abbrev args : Args
  args = bounded (a_type ∷ a_type ∷ []) (Boxed.row, (Boxed.al.row, tt)) (dcons Boxed.al.d (dcons Boxed.al.drops (dcons dx dnil)))

  abbrev instance : Fn
  instance = inst_fn args code.function

  abbrev promise : Ended
  promise = F.ended Boxed.row Boxed.al.row Boxed.al.g Boxed.al.d Boxed.al.drops dx

  abbrev leaves_none : Stays promise.signature.params promise.kept
  leaves_none = (stay_dropped (plain (λ _. B Boxed)) no, tt)

  abbrev Parts : RattleType
  Parts = raw_box.the_row (R Boxed) (P Boxed) Boxed.al.g

  module _ {M : Type 1} {𝓤 : Ura M} (𝓛 : Logic 𝓤) (at_mem : Memory → SProp 𝓤) (run : Routine → Fun 𝓤) (𝓣 : Tables 𝓤 𝓛.H) where
    open 𝓛 use {H}

    abbrev told : Clauses 𝓤 promise
    told = F.clauses Boxed.row Boxed.al.row Boxed.al.g Boxed.al.d Boxed.al.drops dx 𝓛 at_mem run

    abbrev Taking : Contract 𝓤
    Taking = triple_of 𝓛 (Ra.signature Boxed.row Boxed.al.row Boxed.al.g Boxed.al.d Boxed.al.drops dx) (Ra.spec Boxed.row Boxed.al.row Boxed.al.g Boxed.al.d Boxed.al.drops dx 𝓛 at_mem run)

    walk : Triple 𝓤 (𝓣.C (raw_sym.name args)) Taking → (z : (walk_of 𝓛 promise leaves_none told).Ghost) → ent 𝓤 ((walk_of 𝓛 promise leaves_none told).pre z) (WpFn 𝓤 H 𝓣.C 𝓣.Λ instance (z.0.4.0 ++ []) ((walk_of 𝓛 promise leaves_none told).post z))
    walk known z =
        let κs = z.0.0 in let qs = z.0.1 in let taken = z.0.3.0 in let a = taken.alloc in let Post = (walk_of 𝓛 promise leaves_none told).post z in
        let tokens : Item 𝓤 = ‵ (flft κs.0 qs.0) ⊛ ‵ (flft κs.1.0 qs.1.0) ⊛ ‵ ftrue in
        let living : Item 𝓤 = raw (fact 𝓤 (κs.0 ⊑ Boxed.row.lives)) ⊛ raw (fact 𝓤 (κs.1.0 ⊑ Boxed.al.row.lives)) ⊛ ‵ ftrue in
        qed 𝓛 ((tokens ⊛ ‵ (fsep ((B Boxed).own_val taken z.0.4.0) ftrue)) ∷ living ∷ []) ∵ split ! $ move ! (1 ∷ []) $ fsplit ! $
        box_out Boxed ! taken z.0.4.0 (λ b o hv e is_word fits. box_in Boxed ! taken b o taken.value e refl $
        let w = word Boxed hv b o in
        let asked : Taking.Ghost = ((κs, qs, tt, (taken, tt), (w ∷ [], tt)), tt) in
        let begun : List (Item 𝓤) = ‵ ((B Boxed).own_val taken (w ∷ [])) ∷ ‵ ftrue ∷ tokens ∷ living ∷ [] in
        by ! (subst (λ (us : List Val). ent 𝓤 (types.Kit.⋆ 𝓛 begun) (WpFn 𝓤 H 𝓣.C 𝓣.Λ instance (us ++ []) Post)) (sym is_word)
        (qed 𝓛 begun ∵ enter ! 𝓣.C 𝓣.Λ instance (w ∷ []) _ $ alloc_all ! (λ ls. pass_all ! refl (box_typed Boxed hv b o fits, tt) $ sets ! (of_opd ! (get ! refl)) refl (box_typed Boxed hv b o fits) $
        fjoin ! $ move ! (1 ∷ 0 ∷ []) $ join ! $ join ! $ use1 𝓛 (raw (Taking.pre asked)) (id⊢ 𝓤 _) $
        -- the call
        calls_at ! (fm_of 𝓤 H 𝓛.laws 𝓣) Taking known asked (and_then ! (get ! refl) (no_more !)) (λ u.
        use1 𝓛 (later (some (λ (r : Ptr × Boxed.al.row.Denot). (tokens ⊛ ‵ ((Tuple (RawPtr ∷ P Boxed ∷ [])).own_val r (u ∷ []))) ⊛ some (λ (_ : (Unit {0} × (Unit {0} × Unit {0})) × Unit {0}). ‵ (fsep (fsep ftrue (fsep ftrue ftrue)) ftrue) ⊛ (raw (fact 𝓤 (r.1 ≡ a)) ⊛ ‵ (box_owns (token Boxed.al a) (R Boxed) r.0 taken.value)))))) (id⊢ 𝓤 _) $
        -- what it answered
        await ! tt $ pick ! (λ r. split ! $ move ! (1 ∷ []) $ pick ! (λ _. split3 ! $ drop ! $ heard ! (r.1 ≡ a) (λ ea.
        in_a_block ! r.0 (λ p. box_owns (token Boxed.al a) (R Boxed) p taken.value) (fst∗ 𝓤 (never 𝓤) (sem 𝓛 (token Boxed.al a (bare (τ Boxed)) null_ptr))) (λ b' o' e'.
        move ! (1 ∷ []) $ split ! $ move ! (1 ∷ []) $ fpick ! (λ vss. fsplit ! $ feq_l ! (λ eu. fsplit ! $ feq_l ! (λ ep. fsplit ! $ rewrite ! 0 (λ (s : Boxed.al.row.Denot). ‵ (Boxed.al.row.own_val s vss.1.0)) ea refl $ handle_tells Boxed.al ! a vss.1.0 (λ hv' eh fits'.
        let whole' : D Boxed = record { ptr = block_ptr b' o'; alloc = a; value = taken.value } in
        let made : Parts.Denot = record { at = block_ptr b' o'; alloc = a; value = taken.value } in
        lands_as ! (ap only (eu ∙ (λ j. vstruct (of_list ((ep ∙ ap (λ (p : Ptr). ptr_val p ∷ []) e') j ++ (eh j ++ []))) ∷ []))) refl (box_typed Boxed hv' b' o' fits') $
        sets ! (of_opd ! (get_in ! (fld ! refl (stop !)) (sub ! 0 refl (whole !)))) refl (tt, tt) $ sets ! (of_opd ! (get_in ! (fld ! refl (stop !)) (sub ! 1 refl (whole !)))) refl fits' $ sets ! (of_opd ! (get ! refl)) refl fits' $
        sets ! (agg ! (and_then ! (get ! refl) (and_then ! (get ! refl) (no_more !)))) refl (box_typed Boxed hv' b' o' fits') $ returns ! (look_at ! 0 refl) $ free_all ! refl $
        -- [the allocator; nothing; the tokens; the value and the right to free its block]
        move ! (3 ∷ []) $ fsplit ! $ box_in Boxed ! whole' b' o' taken.value refl refl $ use1 𝓛 (‵ (Parts.own_val made (word Boxed hv' b' o' ∷ []))) (id⊢ 𝓤 _) $ move ! (1 ∷ []) $ drop ! $
        suffices ! _ (ends_at 𝓛 promise leaves_none told z (word Boxed hv' b' o') made ((tt, (tt, tt)), tt) (tt, tt)) $ says ! refl $
        nothing ! $ nothing ! $ fjoin ! $ join ! $ move ! (1 ∷ 0 ∷ []) $ join ! $ done !)))))))))))))

pub of_spec : {M : Type 1} → stated.statement M
unfolding tables_of
of_spec 𝓤 𝓛 𝓜 𝓡 wired X Z LX LZ g whole' dd dx allocator md glue =
    let Boxed : Bx = record { row = X; laws = LX; al = record { row = Z; laws = LZ; g = g; d = whole'; drops = dd } } in
    let 𝓣 : Tables 𝓤 𝓛.H = tables_of 𝓤 𝓛.H 𝓜 (tables 𝓤 𝓛.H 𝓜 𝓡 𝓡.env) in
    let fn = instance Boxed dx in
    entered 𝓤 𝓛.H (triple_of 𝓛 (promise Boxed dx).signature (F.spec X Z g whole' dd dx 𝓛 𝓜.mem 𝓡.returns)) 𝓣.C 𝓣.Λ (#self (args Boxed dx)) fn (code.unfolded 𝓤 𝓛.H 𝓜 𝓡 wired (X, (Z, tt)) whole' dd dx)
    (walk_Meets 𝓛 (promise Boxed dx) (leaves_none Boxed dx) (Goes-blank 𝓛 2 (plain (λ _. B Boxed)) no (λ κs x f. tt), tt) (told Boxed dx 𝓛 𝓜.mem 𝓡.returns 𝓣) (WpFn 𝓤 𝓛.H 𝓣.C 𝓣.Λ fn) (WpFn-mono 𝓤 𝓛.H 𝓛.laws 𝓣 fn)
    (walk Boxed dx 𝓛 𝓜.mem 𝓡.returns 𝓣 (raw_met.met 𝓤 𝓛 𝓜 𝓡 (code.calls-std_alloc::boxed::Box::into_raw_with_allocator 𝓡.env wired) X Z LX LZ g whole' dd dx allocator md glue)))
