-- The starts of instructions, one after another.
use Rattle.std.proofs.Common.{◌≡◌, ◌≢◌, ℕ, ◌+◌, ◌≤◌, true, false, eqb, add-one, refl, sym, ap, ◌∙◌, eq-eqb, arith}
use Rattle.std.proofs.lemmas.Bool.{ne_eqb}
use Rattle.bpf_isa.specs.Reading.{decoding, units_in}
use Rattle.bpf_image.specs.Program.{Program}
use Rattle.verifier.specs.Listing.{start_from, is_start}
use Rattle.explanation.specs.declared.cursor.Cursor.{Cursor}
use Rattle.explanation.specs.Starts.{starts_below, IsAt}

pub first_start : (p : Program) → start_from p 0 ≡ 0
unfolding start_from
first_start p = refl

pub first_ordinal : (p : Program) → starts_below p 0 ≡ 0
unfolding starts_below
first_ordinal p = refl

pub starts_here : (p : Program) (pc next : ℕ) → next ≡ start_from p pc → pc ≡ next → is_start p pc ≡ true
starts_here p pc next h same = eq-eqb (start_from p pc) pc (sym h ∙ sym same)

pub starts_not : (p : Program) (pc next : ℕ) → next ≡ start_from p pc → pc ≢ next → is_start p pc ≡ false
starts_not p pc next h other = ne_eqb (start_from p pc) pc (λ same. other (sym same ∙ sym h))

pub start_behind : (p : Program) (pc next : ℕ) → next ≡ start_from p pc → pc ≡ next → start_from p (pc + 1) ≡ next + units_in (decoding p.code pc)
unfolding start_from
start_behind p pc next h same =
    let here : eqb (start_from p pc) pc ≡ true = eq-eqb (start_from p pc) pc (sym h ∙ sym same) in
    rw (add-one, here) (ap (λ n. n + units_in (decoding p.code pc)) same)

pub start_past : (p : Program) (pc next : ℕ) → next ≡ start_from p pc → pc ≢ next → start_from p (pc + 1) ≡ next
unfolding start_from
start_past p pc next h other =
    let here : eqb (start_from p pc) pc ≡ false = ne_eqb (start_from p pc) pc (λ same. other (sym same ∙ sym h)) in
    rw (add-one, here) (sym h)

pub ordinal_behind : (p : Program) (pc next : ℕ) → next ≡ start_from p pc → pc ≡ next → starts_below p (pc + 1) ≡ starts_below p pc + 1
unfolding starts_below
ordinal_behind p pc next h same =
    let here : eqb (start_from p pc) pc ≡ true = eq-eqb (start_from p pc) pc (sym h ∙ sym same) in
    rw (add-one, here) refl

pub ordinal_past : (p : Program) (pc next : ℕ) → next ≡ start_from p pc → pc ≢ next → starts_below p (pc + 1) ≡ starts_below p pc
unfolding starts_below
ordinal_past p pc next h other =
    let here : eqb (start_from p pc) pc ≡ false = ne_eqb (start_from p pc) pc (λ same. other (sym same ∙ sym h)) in
    rw (add-one, here) refl

-- before the first unit
pub at_first : (p : Program) (cursor : Cursor) → cursor.next ≡ 0 → cursor.ordinal ≡ 0 → IsAt p 0 cursor
at_first p cursor next ordinal =
    record {
      next = next ∙ sym (first_start p);
      near = omega (arith, next);
      ordinal = ordinal ∙ sym (first_ordinal p);
      few = omega (arith, ordinal);
    }

-- after a unit at which an instruction starts, and after one where none does
pub at_behind : (p : Program) (pc : ℕ) (cursor past : Cursor) → IsAt p pc cursor → pc ≡ cursor.next → past.next ≡ pc + units_in (decoding p.code pc) → past.ordinal ≡ cursor.ordinal + 1 → past.next ≤ 8192 → IsAt p (pc + 1) past
at_behind p pc cursor past at same next ordinal near =
    record {
      next = next ∙ ap (λ n. n + units_in (decoding p.code pc)) same ∙ sym (start_behind p pc cursor.next at.next same);
      near = near;
      ordinal = ordinal ∙ ap (λ n. n + 1) at.ordinal ∙ sym (ordinal_behind p pc cursor.next at.next same);
      few = (let few = at.few in omega (arith, few, ordinal));
    }

pub at_past : (p : Program) (pc : ℕ) (cursor : Cursor) → IsAt p pc cursor → pc ≢ cursor.next → IsAt p (pc + 1) cursor
at_past p pc cursor at other =
    record {
      next = sym (start_past p pc cursor.next at.next other);
      near = at.near;
      ordinal = at.ordinal ∙ sym (ordinal_past p pc cursor.next at.next other);
      few = (let few = at.few in omega (arith, few));
    }
