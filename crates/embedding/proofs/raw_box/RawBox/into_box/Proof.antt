-- The two fields go to the call, with the block; the box that it answers is the result.
use mathlib.Core.Path.{◌≡◌, refl, sym, subst, ap}
use mathlib.Core.List.{List, [], ◌∷◌, ◌++◌}
use lib.Dec.{T}
use seplogic.Ra.Ura.{Ura}
use mir.Syntax.{Fn, Body, place, copy, assign, rv_opd, seq, return}
use mir.MapTy.{inst_fn}
use mir.Val.{Val, vptr, has_ty, WT}
use base.Logic.{SProp, ent, id⊢}
use base.Fml.{ftrue, fsep, flft}
use contract.BorrowLft.{◌⊑◌}
use prog.Memory.{Memory}
use prog.Routine.{Routine}
use prog.Wp.{WpFn, Tables}
use types.Logic.{Logic}
use contract.Monad.{Fun, fact}
use contract.Running.{tables, tables_of}
use sound.WpLaws.{fm_of, WpFn-mono}
use types.Kit.{Item, at_ret, ‵, raw, ◌⊛◌, some, later, ◌$◌, ◌∵◌, !, qed, by, move, drop, use1, join, split, split3, pick, rewrite, fsplit, fjoin, feq_i, suffices, await, done}
use types.Part.{whole, sub}
use types.Run.{stop, fld, no_more, and_then, of_opd, returns, enter, first, blocks, exec}
use types.ByLocal.{alloc_all, pass_all, free_all, look_at, get, get_in, sets, lands_last, env}
use denote.RattleType.{RattleType}
use denote.Exit.{no}
use denote.RawPtr.{block_ptr}
use denote.Signature.{plain}
use denote.Steps.{heard, nothing, only}
use denote.Triple.Call.{calls_at_last}
use denote.Triple.Clauses.{Ended, Clauses}
use denote.Triple.Spec.{triple_of}
use denote.Triple.Statement.{Triple, Contract}
use denote.Triple.Table.{entered}
use denote.Triple.Walked.{says, Stays, stay_dropped, walk_of, ends_at, walk_Meets}
use Rattle.core.proofs.alloc.Calls.{token, Goes-blank}
use Rattle.std_alloc.specs.Box.Ownership.{box_owns}
use Rattle.std_alloc.proofs.BoxSteps.Form.{Bx, D, R, P, B, args, box_ty, word, box_typed}
use Rattle.std_alloc.proofs.BoxSteps.Steps.{box_out, box_in}
use Rattle.embedding.specs.contracts.raw_box.RawBox as raw_box
use Rattle.std_alloc.specs.contracts.boxed.Box.from_raw as Fr
use Rattle.std_alloc.proofs.boxed.Box.from_raw.Symbol as raw_sym
use Rattle.std_alloc.proofs.boxed.Box.from_raw.Met as raw_met
use Rattle.embedding.specs.contracts.raw_box.RawBox.into_box as F
use Rattle.embedding.specs.contracts.raw_box.RawBox.into_box.Key.{name as #self}
use Rattle.embedding.proofs.raw_box.RawBox.into_box.Statement as stated
use Rattle.embedding.proofs.raw_box.RawBox.into_box.Code as code

abbrev to_the_end : Body
to_the_end = seq (assign (place 0 []) (rv_opd (copy (place 4 [])))) return

module _ (Boxed : Bx) where
  abbrev instance : Fn
  instance = inst_fn (args Boxed) code.function

  abbrev promise : Ended
  promise = F.ended Boxed.row Boxed.al.row Boxed.al.g Boxed.al.d Boxed.al.drops

  abbrev Parts : RattleType
  Parts = raw_box.the_row (R Boxed) (P Boxed) Boxed.al.g

  abbrev leaves_none : Stays promise.signature.params promise.kept
  leaves_none = (stay_dropped (plain (λ _. Parts)) no, tt)

  module _ {M : Type 1} {𝓤 : Ura M} (𝓛 : Logic 𝓤) (at_mem : Memory → SProp 𝓤) (run : Routine → Fun 𝓤) (𝓣 : Tables 𝓤 𝓛.H) where
    open 𝓛 use {H}

    abbrev told : Clauses 𝓤 promise
    told = F.clauses Boxed.row Boxed.al.row Boxed.al.g Boxed.al.d Boxed.al.drops 𝓛 at_mem run

    abbrev Giving : Contract 𝓤
    Giving = triple_of 𝓛 (Fr.signature Boxed.row Boxed.al.row Boxed.al.g Boxed.al.d Boxed.al.drops) (Fr.spec Boxed.row Boxed.al.row Boxed.al.g Boxed.al.d Boxed.al.drops 𝓛 at_mem run)

    walk : Triple 𝓤 (𝓣.C (raw_sym.name (args Boxed))) Giving → (z : (walk_of 𝓛 promise leaves_none told).Ghost) → ent 𝓤 ((walk_of 𝓛 promise leaves_none told).pre z) (WpFn 𝓤 H 𝓣.C 𝓣.Λ instance (z.0.4.0 ++ []) ((walk_of 𝓛 promise leaves_none told).post z))
    walk known z =
        let κs = z.0.0 in let qs = z.0.1 in let a = z.0.3.0.alloc in let x = z.0.3.0.value in let Post = (walk_of 𝓛 promise leaves_none told).post z in
        let taken : D Boxed = record { ptr = z.0.3.0.at; alloc = a; value = x } in
        let tokens : Item 𝓤 = ‵ (flft κs.0 qs.0) ⊛ ‵ (flft κs.1.0 qs.1.0) ⊛ ‵ ftrue in
        let value_lives : Item 𝓤 = raw (fact 𝓤 (κs.0 ⊑ Boxed.row.lives)) in let heap_lives : Item 𝓤 = raw (fact 𝓤 (κs.1.0 ⊑ Boxed.al.row.lives)) in
        qed 𝓛 ((tokens ⊛ ‵ (fsep ((B Boxed).own_val taken z.0.4.0) ftrue)) ∷ (value_lives ⊛ heap_lives ⊛ ‵ ftrue) ∷ []) ∵ split ! $ move ! (1 ∷ []) $ fsplit ! $
        box_out Boxed ! taken z.0.4.0 (λ b o hv e is_word fits. fjoin ! $
        let w = word Boxed hv b o in
        let asked : Giving.Ghost = ((κs, qs, tt, (a, (block_ptr b o, tt)), (hv ∷ [], (vptr b o ∷ [], tt))), x) in
        let begun : List (Item 𝓤) = ‵ (box_owns (token Boxed.al a) (R Boxed) (block_ptr b o) x) ∷ ‵ ((P Boxed).own_val a (hv ∷ [])) ∷ ‵ ftrue ∷ tokens ∷ (value_lives ⊛ heap_lives ⊛ ‵ ftrue) ∷ [] in
        by ! (subst (λ (us : List Val). ent 𝓤 (types.Kit.⋆ 𝓛 begun) (WpFn 𝓤 H 𝓣.C 𝓣.Λ instance (us ++ []) Post)) (sym is_word)
        (qed 𝓛 begun ∵ enter ! 𝓣.C 𝓣.Λ instance (w ∷ []) _ $ alloc_all ! (λ ls. pass_all ! refl (box_typed Boxed hv b o fits, tt) $
        sets ! (of_opd ! (get_in ! (fld ! refl (stop !)) (sub ! 0 refl (whole !)))) refl (tt, tt) $ sets ! (of_opd ! (get_in ! (fld ! refl (stop !)) (sub ! 1 refl (whole !)))) refl fits $
        first ! $ blocks ! $ sets ! (of_opd ! (get ! refl)) refl fits $
        move ! (4 ∷ []) $ split3 ! $ move ! (2 ∷ []) $ drop ! $ move ! (1 ∷ 2 ∷ []) $ join ! $ move ! (1 ∷ 0 ∷ []) $ join ! $
        -- [the value and the right to free its block; the allocator; nothing; the tokens]
        move ! (2 ∷ []) $ feq_i ! (List Val) (vptr b o ∷ []) (vptr b o ∷ []) refl $ fjoin ! $ move ! (2 ∷ 0 ∷ []) $ fjoin ! $ move ! (2 ∷ 0 ∷ []) $ join ! $ join ! $ use1 𝓛 (raw (Giving.pre asked)) (id⊢ 𝓤 _) $
        -- the call
        calls_at_last ! (fm_of 𝓤 H 𝓛.laws 𝓣) Giving known asked (and_then ! (get ! refl) (and_then ! (get ! refl) (no_more !))) (λ u.
        use1 𝓛 (later (some (λ (r : D Boxed). (tokens ⊛ ‵ ((B Boxed).own_val r (u ∷ []))) ⊛ some (λ (_ : Unit {0} × (Unit {0} × Unit {0})). ‵ (fsep ftrue (fsep ftrue ftrue)) ⊛ (raw (fact 𝓤 (r.value ≡ x)) ⊛ raw (fact 𝓤 (r.alloc ≡ a))))))) (id⊢ 𝓤 _) $
        -- what it answered
        await ! tt $ pick ! (λ r. split ! $ move ! (1 ∷ []) $ pick ! (λ _. split3 ! $ drop ! $ heard ! (r.value ≡ x) (λ same. drop ! $ split ! $ move ! (1 ∷ []) $
        box_out Boxed ! r (u ∷ []) (λ b' o' hv' e' is_word' fits'. box_in Boxed ! r b' o' r.value e' refl $ rewrite ! 0 (λ (us : List Val). ‵ ((B Boxed).own_val r us)) (sym is_word') refl $
        let typed : T (has_ty (box_ty Boxed) u) × WT u = subst (λ (s : Val). T (has_ty (box_ty Boxed) s) × WT s) (sym (ap only is_word')) (box_typed Boxed hv' b' o' fits') in
        lands_last ! refl typed $ exec ! 𝓣.C 𝓣.Λ (env instance.locals ls) to_the_end (at_ret (env instance.locals ls) Post) $
        sets ! (of_opd ! (get ! refl)) refl typed $ returns ! (look_at ! 0 refl) $ free_all ! refl $
        suffices ! _ (ends_at 𝓛 promise leaves_none told z u r ((tt, (tt, tt)), tt) (tt, tt)) $ says ! same $
        nothing ! $ nothing ! $ fjoin ! $ join ! $ move ! (1 ∷ 0 ∷ []) $ join ! $ done !)))))))))

pub into_box_spec : {M : Type 1} → stated.statement M
unfolding tables_of
into_box_spec 𝓤 𝓛 𝓜 𝓡 wired X Z LX LZ g d dd allocator md =
    let Boxed : Bx = record { row = X; laws = LX; al = record { row = Z; laws = LZ; g = g; d = d; drops = dd } } in
    let 𝓣 : Tables 𝓤 𝓛.H = tables_of 𝓤 𝓛.H 𝓜 (tables 𝓤 𝓛.H 𝓜 𝓡 𝓡.env) in
    let fn = instance Boxed in
    entered 𝓤 𝓛.H (triple_of 𝓛 (promise Boxed).signature (F.spec X Z g d dd 𝓛 𝓜.mem 𝓡.returns)) 𝓣.C 𝓣.Λ (#self (args Boxed)) fn (code.unfolded 𝓤 𝓛.H 𝓜 𝓡 wired (X, (Z, tt)) d dd)
    (walk_Meets 𝓛 (promise Boxed) (leaves_none Boxed) (Goes-blank 𝓛 2 (plain (λ _. Parts Boxed)) no (λ κs x f. tt), tt) (told Boxed 𝓛 𝓜.mem 𝓡.returns 𝓣) (WpFn 𝓤 𝓛.H 𝓣.C 𝓣.Λ fn) (WpFn-mono 𝓤 𝓛.H 𝓛.laws 𝓣 fn)
    (walk Boxed 𝓛 𝓜.mem 𝓡.returns 𝓣 (raw_met.met 𝓤 𝓛 𝓜 𝓡 (code.calls-std_alloc::boxed::Box::from_raw 𝓡.env wired) X Z LX LZ g d dd allocator md)))
