-- How a store comes by a version that it has afterwards.
use Rattle.std.proofs.Common.{◌≡◌, ◌⊎◌, inl, inr, Option, Some, None, List, [], ◌∷◌, ◌++◌, length, refl, sym, ap, subst, ◌∙◌, length-append, arith}
use Rattle.std.proofs.lemmas.Bool.{cases_lt}
use Rattle.past_model.specs.declared.entry.Entry.{Entry}
use Rattle.past_model.specs.Past.{Past, longer}
use Rattle.past_model.specs.Epochs.{IsBefore, IsBeforeInEpoch, rebased}
use Rattle.past_model.proofs.Beginnings.{prefix_shorter, prefix_whole}
use Rattle.past_model.proofs.Epochs.{before_itself, before_onwards, before_one, before_longer, before_rebased, same_past}
use Rattle.store_model.specs.declared.event.Event.{Event}
use Rattle.store_model.specs.declared.event.Event.TheVariants.{Submit, Take, Part, Publish, Rebase, Pin, Lend}
use Rattle.store_model.specs.declared.reply.Reply.{Reply}
use Rattle.store_model.specs.Core.{Core, Holding}
use Rattle.store_model.specs.Events.{after, after_take, after_publish, Steps, Ran}
use Rattle.store_model.proofs.Steps.{step_keeps, runs_keep}

-- an event publishes one batch, or a rebase, or nothing
abbrev pub Grown : Past → Past → Type 0
Grown p q = (q ≡ p) ⊎ (((e : Entry) × (q ≡ longer p e)) ⊎ (q ≡ rebased p))

grown_take : (queue : List Entry) (s : Core) → Grown s.past (after_take queue s).past
grown_take [] s = inl refl
grown_take (e ∷ es) s = inl refl

grown_publish : (held : Option Holding) (s : Core) → Grown s.past (after_publish held s).past
grown_publish None s = inl refl
grown_publish (Some h) s = inr (inl (h.entry, refl))

grown_after : (s : Core) (event : Event) (reply : Reply) → Grown s.past (after s event reply).past
grown_after s (Submit feed batch) reply = inl refl
grown_after s Take reply = grown_take s.queue s
grown_after s (Part range) reply = inl refl
grown_after s Publish reply = grown_publish s.held s
grown_after s Rebase reply = inr (inr refl)
grown_after s (Pin reader vertex) reply = inl refl
grown_after s (Lend reader) reply = inl refl

pub grown : (s t : Core) (event : Event) (reply : Reply) → Steps s event reply t → Grown s.past t.past
grown s t event reply step =
    step_keeps (λ x. Grown s.past x.past) s t event reply (inl refl) (λ h. subst (λ x. Grown s.past x.past) (sym h.2) (grown_after s event reply)) step

before_grown : (p q : Past) → Grown p q → IsBefore p q
before_grown p q (inl same) = subst (IsBefore p) (sym same) (before_itself p)
before_grown p q (inr (inl (e, next))) = subst (IsBefore p) (sym next) (before_longer p e)
before_grown p q (inr (inr next)) = subst (IsBefore p) (sym next) (before_rebased p)

-- the last version is before what it becomes
pub goes_on : (s t : Core) (events : List Event) (replies : List Reply) → Ran s events replies t → IsBefore s.past t.past
goes_on s t events replies ran =
    runs_keep (λ x. IsBefore s.past x.past)
    (λ x y event reply now h. before_onwards s.past x.past y.past now (before_grown x.past y.past (subst (λ z. Grown x.past z.past) (sym h.2) (grown_after x event reply)))) s t events replies
    (before_itself s.past) ran

-- of two pasts before a third, whose epoch is that of the second, one is before the other
pub one_first : (p q last : Past) → IsBefore p last → q.vertex_count ≡ last.vertex_count → IsBeforeInEpoch q last → IsBefore p q ⊎ IsBeforeInEpoch q p
one_first p q last (counts, inl first) same in_epoch = elim (cases_lt (length q.log) (length p.log)) [
  | inl less ↦ inr (record {
    base = sym first.base ∙ in_epoch.base;
    marks = sym first.marks ∙ in_epoch.marks;
    log = prefix_shorter q.log p.log last.log in_epoch.log first.log (omega arith);
  })
  | inr more ↦ inl (
    same ∙ counts,
    inl (record {
      base = sym in_epoch.base ∙ first.base;
      marks = sym in_epoch.marks ∙ first.marks;
      log = prefix_shorter p.log q.log last.log first.log in_epoch.log more;
    }),
  )
]
one_first p q last (counts, inr first) same in_epoch =
    inl (same ∙ counts, inr (record { mark = first.mark; later = first.later; marks = sym in_epoch.marks ∙ first.marks; log = first.log }))

-- no version comes between one and what an event makes of it
pub none_between : (p q next : Past) → Grown p next → IsBefore p q → q.vertex_count ≡ next.vertex_count → IsBeforeInEpoch q next → (p ≡ q) ⊎ (next ≡ q)
none_between p q next (inl same) first counts last =
    inl (before_one p q first (subst (IsBefore q) same (sym counts, inl last)))
none_between p q next (inr (inr is)) first counts last =
    let now : IsBeforeInEpoch q (rebased p) = subst (IsBeforeInEpoch q) is last in
    inr (is ∙ sym (same_past q (rebased p) (ap (λ x. x.vertex_count) (sym is) ∙ sym counts) now.base now.marks (prefix_whole q.log [] now.log (omega arith))))
none_between p q next (inr (inl (e, is))) first counts last =
    let now : IsBeforeInEpoch q (longer p e) = subst (IsBeforeInEpoch q) is last in
    elim (cases_lt (length p.log) (length q.log)) [
      | inl all ↦ inr (is ∙ sym (same_past q (longer p e) (ap (λ x. x.vertex_count) (sym is) ∙ sym counts) now.base now.marks (prefix_whole q.log (p.log ++ e ∷ []) now.log (omega (arith, length-append p.log (e ∷ []))))))
      | inr less ↦ inl (before_one p q first (
        sym first.0,
        inl (record {
          base = now.base;
          marks = now.marks;
          log = prefix_shorter q.log p.log (p.log ++ e ∷ []) now.log (e ∷ [], refl) less;
        }),
      ))
    ]
