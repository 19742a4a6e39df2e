-- What a handle and the parts of a box own, in the words of a box at the same types. Assumes `Logic`.
use mathlib.Core.Path.{◌≡◌, refl, subst}
use mathlib.Core.List.{List, [], ◌∷◌, ◌++◌}
use seplogic.Ra.Ura.{Ura}
use mir.Syntax.{impl, tnil, dnil}
use lib.Dec.{T, lit<}
use mir.Val.{Val, vstruct, of_list, has_ty, WT}
use types.Logic.{Logic}
use types.Kit.{Goal, Seq, Step, step, Item, ‵, ◌$◌, move, drop, fsplit, fjoin, fpick, fpack, feq_l, feq_i}
use denote.RattleType.{RattleType, Valss}
use denote.Param.{layout}
use denote.RawPtr.{RawPtr, Ptr, null_ptr, ptr_val}
use denote.Signature.{Slot, plain}
use denote.Steps.{nothing}
use denote.Struct.Struct.{within}
use denote.Struct.Owning.{shape}
use Rattle.core.proofs.alloc.Calls.{Fits, handle_tells}
use Rattle.std_alloc.proofs.BoxSteps.Form.{Bx, P, handle, owning}
use Rattle.std_alloc.proofs.ResultValues.{and_tt}
use Rattle.std_heap.specs.contracts.Global as heap
use Rattle.std_heap.specs.contracts.GlobalAllocator.TheImpl.{ghosts, dict}
use Rattle.std_heap.proofs.Global.TheLaws as heap_laws
use Rattle.embedding.specs.contracts.held.Held as held
use Rattle.embedding.proofs.held.Held.TheLaws as held_laws
use Rattle.embedding.specs.contracts.raw_box.RawBox as raw_box
use Rattle.embedding.specs.contracts.handle.Handle as handles
use Rattle.embedding.specs.Handle.{handle_owns}

-- the box of what a handle holds
abbrev pub E : Bx
E = record { row = held.the_row; laws = held_laws.the_row_laws; al = record { row = heap.the_row; laws = heap_laws.the_row_laws; g = ghosts; d = dict; drops = impl [] tnil dnil } }

abbrev pub Raw : RattleType
Raw = raw_box.the_row held.the_row heap.the_row ghosts

abbrev pub Handle : RattleType
Handle = handles.the_row

abbrev pub FromRaw : Slot 0
FromRaw = plain (λ _. Raw)

abbrev pub FromHandle : Slot 0
FromHandle = plain (λ _. Handle)

abbrev pub FromAlloc : Slot 0
FromAlloc = plain (λ _. heap.the_row)

-- a handle's machine value, at its pointer and at that of the allocator
abbrev pub two : Ptr → Val → Val
two p hv = vstruct (of_list (ptr_val p ∷ hv ∷ []))

-- an empty handle's machine value has its type
pub null_typed : (hv : Val) → Fits E.al hv → T (has_ty (layout Handle) (two null_ptr hv)) × WT (two null_ptr hv)
null_typed hv fits = (and_tt _ fits.0, (record { fits = lit< tt }, (fits.1, tt)))

module _ {M : Type 1} {𝓤 : Ura M} {𝓛 : Logic 𝓤} {K : Type 0} {Γ : List (Item 𝓤)} {G : Goal 𝓤 𝓛.H} where
  -- a handle by value is what it owns, and its allocator
  pub handle_out : K → (d : Handle.Denot) (vs : List Val)
      → ((hv : Val) → vs ≡ two d.at hv ∷ [] → Fits E.al hv → Seq K 𝓛 (‵ (handle_owns d.alloc d.at d.held) ∷ ‵ (handle E d.alloc hv) ∷ Γ) G)
      → Seq K 𝓛 (‵ (Handle.own_val d vs) ∷ Γ) G
  handle_out t d vs next =
      fsplit t $ fpick t (λ vss. fsplit t $ feq_l t (λ ev. fsplit t $ feq_l t (λ ep. fsplit t $
      handle_tells E.al t d.alloc vss.1.0 (λ hv ea fits. move t (1 ∷ []) $ drop t $ move t (1 ∷ []) $
      next hv
      (subst (λ (ws : List Val). vs ≡ vstruct (of_list (ptr_val d.at ∷ (ws ++ []))) ∷ []) ea
      (subst (λ (ps : List Val). vs ≡ vstruct (of_list (ps ++ (vss.1.0 ++ []))) ∷ []) ep ev)) fits))))

  -- and back
  pub handle_in : K → (hv : Val) (d : Handle.Denot)
      → Step K 𝓛 (‵ (Handle.own_val d (two d.at hv ∷ [])) ∷ Γ) G (‵ (handle_owns d.alloc d.at d.held) ∷ ‵ (handle E d.alloc hv) ∷ Γ) G
  handle_in t hv d = step (λ s.
      nothing t $ move t (2 ∷ 0 ∷ []) $ fjoin t $ feq_i t (List Val) (ptr_val d.at ∷ []) (ptr_val d.at ∷ []) refl $ fjoin t $
      feq_i t (List Val) (two d.at hv ∷ []) (two d.at hv ∷ []) refl $ fjoin t $
      fpack t (Valss (RawPtr ∷ P E ∷ [])) (within (shape (owning E)) (d.at, (d.alloc, tt)) (two d.at hv ∷ [])) (ptr_val d.at ∷ [], (hv ∷ [], tt)) $ fjoin t $ s)
