-- The frames in memory, by the bytes of all frames in a row.
use Rattle.std.proofs.Common.{◌≡◌, ℕ, zero, suc, ◌+◌, ◌-◌, ◌*◌, ◌/◌, ◌%◌, ◌<◌, ◌≤◌, true, false, Bool, nat_le, nat_lt, eqb, List, [], ◌∷◌, length, get_or, set, drop, drop-cons, add-one, Option, Some, None, refl, sym, ap, ◌∙◌, arith, inl, inr, ◌⊎◌, eq-eqb}
use Rattle.std.specs.Prelude.{◌&&◌}
use Rattle.std.proofs.Math.Path.{fun_ext}
use Rattle.std.proofs.lemmas.Bool.{cases_Bool, cases_eq, cases_lt, and_parts, and_from, or_left, or_right, le-leb, lt-leb, leb-true, leb-false, lt-ltb, le-ltb, ne_eqb}
use Rattle.std.proofs.lemmas.List.{get_or-set_same, get_or-set_other}
use Rattle.bpf_model.specs.State.{Partial, with_value, with_values, without_values, frame_top, frame_bytes, in_frame, in_frames}
use Rattle.bpf_model.specs.declared.limits.TheConstants.{STACK_BASE, FRAME_SPACE, FRAME_BYTES}
use Rattle.bpf_machine.specs.declared.callers.Kept.{Kept}
use Rattle.bpf_machine.specs.declared.stack.Stack.{Stack}
use Rattle.bpf_machine.specs.declared.stack.Stack.TheVariants.{One, All}
use Rattle.bpf_machine.specs.Cells.{frames_in}
use Rattle.bpf_machine.specs.Seen.{values_of, memory_of, no_caller, callers_of}
use Rattle.bpf_machine.specs.declared.stack.TheConstants.{FRAME_START}

-- ---- which frame an access lies in

pub found_inside : (n k j a size : ℕ) → k < n → a ≡ (frame_top k - frame_bytes) + j → j + size ≤ frame_bytes → in_frames n a size ≡ true
found_inside zero k j a size lt is inside = absurd (omega (arith, lt))
found_inside (suc n) k j a size lt is inside =
    elim (cases_eq k n) [
      | inl same ↦ or_left _ _ (and_from _ _ (le-leb (frame_top n - frame_bytes) a (omega (arith, same, is, inside))) (le-leb (a + size) (frame_top n) (omega (arith, same, is, inside))))
      | inr other ↦ or_right _ _ (found_inside n k j a size (omega (arith, lt, other)) is inside)
    ]

-- an access that lies in no frame's room in the right way
abbrev pub IsOutside : ℕ → ℕ → ℕ → Type 0
IsOutside n a size =
    (a < STACK_BASE) ⊎ ((n ≤ (a - STACK_BASE) / FRAME_SPACE) ⊎ (((a - STACK_BASE) % FRAME_SPACE < FRAME_START) ⊎ (FRAME_SPACE < (a - STACK_BASE) % FRAME_SPACE + size)))

in_no_frame : (n k a size : ℕ) → 1 ≤ size → k < n → IsOutside n a size → in_frame k a size ≡ true → ⊥
in_no_frame n k a size some lt outside is =
    let both = and_parts (nat_le (frame_top k - frame_bytes) a) (nat_le (a + size) (frame_top k)) is in
    let begins : frame_top k - frame_bytes ≤ a = leb-true _ _ both.0 in
    let ends : a + size ≤ frame_top k = leb-true _ _ both.1 in
    elim outside [
      | inl below ↦ omega (arith, begins, below)
      | inr rest ↦ elim rest [
        | inl past ↦ omega (arith, begins, ends, past, lt, some)
        | inr near ↦ elim near [
          | inl low ↦ omega (arith, begins, ends, low, some)
          | inr long ↦ omega (arith, begins, ends, long, some)
        ]
      ]
    ]

not_true : (b : Bool) → ((b ≡ true) → ⊥) → b ≡ false
not_true true h = absurd (h refl)
not_true false h = refl

pub found_outside : (n m a size : ℕ) → 1 ≤ size → n ≤ m → IsOutside m a size → in_frames n a size ≡ false
found_outside zero m a size some le outside = refl
found_outside (suc n) m a size some le outside =
    let here : in_frame n a size ≡ false = not_true (in_frame n a size) (in_no_frame m n a size some (omega (arith, le)) outside) in
    rw here (found_outside n m a size some (omega (arith, le)) outside)

-- ---- bytes that are set, and frames that are opened

abbrev address_of : ℕ → ℕ → ℕ
address_of frame place = (frame_top frame - frame_bytes) + place

stored_at : (bytes : List ℕ) (cells : Partial) (frame place v a : ℕ) → place < frame_bytes → with_value (memory_of bytes cells) (address_of frame place) v a ≡ memory_of bytes (with_value cells (frame_bytes * frame + place) v) a
stored_at bytes cells frame place v a inside =
    elim (cases_eq a (address_of frame place)) [
      | inl same ↦
          let test : eqb a (address_of frame place) ≡ true = eq-eqb _ _ same in
          let above : nat_le STACK_BASE a ≡ true = le-leb _ _ (omega (arith, same)) in
          let room : nat_le FRAME_START ((a - STACK_BASE) % FRAME_SPACE) ≡ true = le-leb _ _ (omega (arith, same, inside)) in
          let cell : FRAME_BYTES * ((a - STACK_BASE) / FRAME_SPACE) + ((a - STACK_BASE) % FRAME_SPACE - FRAME_START) ≡ FRAME_BYTES * frame + place = omega (arith, same, inside) in
          let is : eqb (FRAME_BYTES * ((a - STACK_BASE) / FRAME_SPACE) + ((a - STACK_BASE) % FRAME_SPACE - FRAME_START)) (FRAME_BYTES * frame + place) ≡ true = eq-eqb _ _ cell in
          rw (test, above, room, is) refl
      | inr other ↦
          let test : eqb a (address_of frame place) ≡ false = ne_eqb _ _ other in
          elim (cases_Bool (nat_le STACK_BASE a)) [
            | inr below ↦ rw (test, below) refl
            | inl above ↦ elim (cases_Bool (nat_le FRAME_START ((a - STACK_BASE) % FRAME_SPACE))) [
              | inr low ↦ rw (test, above, low) refl
              | inl room ↦
                  let base = leb-true STACK_BASE a above in
                  let start = leb-true FRAME_START ((a - STACK_BASE) % FRAME_SPACE) room in
                  let apart : eqb (FRAME_BYTES * ((a - STACK_BASE) / FRAME_SPACE) + ((a - STACK_BASE) % FRAME_SPACE - FRAME_START)) (FRAME_BYTES * frame + place) ≡ false = ne_eqb _ _ (λ e. omega (arith, e, base, start, other, inside)) in
                  rw (test, above, room, apart) refl
            ]
          ]
    ]

pub stored_seen : (bytes : List ℕ) (cells : Partial) (frame place v : ℕ) → place < frame_bytes → with_value (memory_of bytes cells) ((frame_top frame - frame_bytes) + place) v ≡ memory_of bytes (with_value cells (frame_bytes * frame + place) v)
stored_seen bytes cells frame place v inside = fun_ext (λ a. stored_at bytes cells frame place v a inside)

pub stored_all_seen : (bytes : List ℕ) (cells : Partial) (frame place : ℕ) (value : List ℕ) → place + length value ≤ frame_bytes → with_values (memory_of bytes cells) ((frame_top frame - frame_bytes) + place) value ≡ memory_of bytes (with_values cells (frame_bytes * frame + place) value)
stored_all_seen bytes cells frame place [] inside = refl
stored_all_seen bytes cells frame place (v ∷ vs) inside =
    let first = stored_seen bytes cells frame place v (omega (arith, inside)) in
    let next : ((frame_top frame - frame_bytes) + place) + 1 ≡ (frame_top frame - frame_bytes) + (place + 1) = omega arith in
    let cell : (frame_bytes * frame + place) + 1 ≡ frame_bytes * frame + (place + 1) = omega arith in
    ap (λ m. with_values m (((frame_top frame - frame_bytes) + place) + 1) vs) first
    ∙ ap (λ a. with_values (memory_of bytes (with_value cells (frame_bytes * frame + place) v)) a vs) next
    ∙ stored_all_seen bytes (with_value cells (frame_bytes * frame + place) v) frame (place + 1) vs (omega (arith, inside))
    ∙ ap (λ k. memory_of bytes (with_values (with_value cells (frame_bytes * frame + place) v) k vs)) (sym cell)

-- whether a place is among those that are cleared
cleared_in : (m : Partial) (from count x : ℕ) → from ≤ x → x < from + count → without_values m from count x ≡ None
cleared_in m from count x low high =
    let both : (nat_le from x && nat_lt x (from + count)) ≡ true = and_from _ _ (le-leb _ _ low) (lt-ltb _ _ high) in
    rw both refl

cleared_out : (m : Partial) (from count x : ℕ) → (x < from) ⊎ (from + count ≤ x) → without_values m from count x ≡ m x
cleared_out m from count x (inl low) = (let test : nat_le from x ≡ false = lt-leb _ _ low in rw test refl)
cleared_out m from count x (inr high) =
    let test : nat_lt x (from + count) ≡ false = le-ltb _ _ high in
    let both : (nat_le from x && nat_lt x (from + count)) ≡ false = rw test (and_none (nat_le from x)) in
    rw both refl
  where
    and_none : (b : Bool) → (b && false) ≡ false
    and_none true = refl
    and_none false = refl

cleared_at : (bytes : List ℕ) (cells : Partial) (frame a : ℕ) → without_values (memory_of bytes cells) (frame_top frame - frame_bytes) frame_bytes a ≡ memory_of bytes (without_values cells (frame_bytes * frame) frame_bytes) a
cleared_at bytes cells frame a =
    elim (cases_Bool (nat_le STACK_BASE a)) [
      | inr below ↦
          let low = leb-false STACK_BASE a below in
          cleared_out (memory_of bytes cells) (frame_top frame - frame_bytes) frame_bytes a (inl (omega (arith, low))) ∙ rw below refl
      | inl above ↦
          let base = leb-true STACK_BASE a above in
          elim (cases_Bool (nat_le FRAME_START ((a - STACK_BASE) % FRAME_SPACE))) [
            | inr low ↦
                let start = leb-false FRAME_START ((a - STACK_BASE) % FRAME_SPACE) low in
                cleared_out (memory_of bytes cells) (frame_top frame - frame_bytes) frame_bytes a (elim (cases_lt a (frame_top frame - frame_bytes)) [ inl lt ↦ inl lt | inr ge ↦ inr (omega (arith, base, start, ge)) ]) ∙ rw (above, low) refl
            | inl room ↦
                let start = leb-true FRAME_START ((a - STACK_BASE) % FRAME_SPACE) room in
                elim (cases_eq ((a - STACK_BASE) / FRAME_SPACE) frame) [
                  | inl same ↦
                      let inside : memory_of bytes (without_values cells (frame_bytes * frame) frame_bytes) a ≡ None = rw (above, room) (cleared_in cells (frame_bytes * frame) frame_bytes (FRAME_BYTES * ((a - STACK_BASE) / FRAME_SPACE) + ((a - STACK_BASE) % FRAME_SPACE - FRAME_START)) (omega (arith, same, start)) (omega (arith, same, start))) in
                      cleared_in (memory_of bytes cells) (frame_top frame - frame_bytes) frame_bytes a (omega (arith, base, start, same)) (omega (arith, base, start, same)) ∙ sym inside
                  | inr other ↦
                      let outside : memory_of bytes (without_values cells (frame_bytes * frame) frame_bytes) a ≡ cells (FRAME_BYTES * ((a - STACK_BASE) / FRAME_SPACE) + ((a - STACK_BASE) % FRAME_SPACE - FRAME_START)) = rw (above, room) (cleared_out cells (frame_bytes * frame) frame_bytes (FRAME_BYTES * ((a - STACK_BASE) / FRAME_SPACE) + ((a - STACK_BASE) % FRAME_SPACE - FRAME_START)) (elim (cases_lt ((a - STACK_BASE) / FRAME_SPACE) frame) [ inl lt ↦ inl (omega (arith, lt, start)) | inr ge ↦ inr (omega (arith, ge, other, start)) ])) in
                      cleared_out (memory_of bytes cells) (frame_top frame - frame_bytes) frame_bytes a (elim (cases_lt ((a - STACK_BASE) / FRAME_SPACE) frame) [ inl lt ↦ inl (omega (arith, lt, start, base)) | inr ge ↦ inr (omega (arith, ge, other, start, base)) ]) ∙ rw (above, room) refl ∙ sym outside
                ]
          ]
    ]

pub cleared_seen : (bytes : List ℕ) (cells : Partial) (frame : ℕ) → without_values (memory_of bytes cells) (frame_top frame - frame_bytes) frame_bytes ≡ memory_of bytes (without_values cells (frame_bytes * frame) frame_bytes)
cleared_seen bytes cells frame = fun_ext (λ a. cleared_at bytes cells frame a)

-- one byte more is unset
pub cleared_none : (m : Partial) (from : ℕ) → m ≡ without_values m from 0
cleared_none m from = fun_ext (λ x. sym (cleared_out m from 0 x (elim (cases_lt x from) [ inl lt ↦ inl lt | inr ge ↦ inr (omega (arith, ge)) ])))

cleared_next : (cells : List (Option ℕ)) (m : Partial) (from k x : ℕ) → from + k < length cells → values_of cells ≡ without_values m from k → values_of (set cells (from + k) None) x ≡ without_values m from (k + 1) x
cleared_next cells m from k x inside so_far =
    let here : values_of cells x ≡ without_values m from k x = ap (λ (f : Partial). f x) so_far in
    elim (cases_eq x (from + k)) [
      | inl same ↦ ap (λ y. values_of (set cells (from + k) None) y) same ∙ get_or-set_same cells (from + k) None None inside ∙ sym (cleared_in m from (k + 1) x (omega (arith, same)) (omega (arith, same)))
      | inr other ↦
          get_or-set_other cells (from + k) x None None other ∙ here ∙ (elim (cases_lt x from) [
            | inl low ↦ cleared_out m from k x (inl low) ∙ sym (cleared_out m from (k + 1) x (inl low))
            | inr ge ↦ elim (cases_lt x (from + k)) [
              | inl lt ↦ cleared_in m from k x ge lt ∙ sym (cleared_in m from (k + 1) x ge (omega (arith, lt)))
              | inr past ↦ cleared_out m from k x (inr past) ∙ sym (cleared_out m from (k + 1) x (inr (omega (arith, past, other))))
            ]
          ])
    ]

pub cleared_more : (cells : List (Option ℕ)) (m : Partial) (from k : ℕ) → from + k < length cells → values_of cells ≡ without_values m from k → values_of (set cells (from + k) None) ≡ without_values m from (k + 1)
cleared_more cells m from k inside so_far = fun_ext (λ x. cleared_next cells m from k x inside so_far)

-- ---- rows of bytes

stored_set_at : (cells : List (Option ℕ)) (k v x : ℕ) → k < length cells → with_value (values_of cells) k v x ≡ values_of (set cells k (Some v)) x
stored_set_at cells k v x inside =
    elim (cases_eq x k) [
      | inl same ↦ (let test : eqb x k ≡ true = eq-eqb _ _ same in rw test (sym (ap (values_of (set cells k (Some v))) same ∙ get_or-set_same cells k (Some v) None inside)))
      | inr other ↦ (let test : eqb x k ≡ false = ne_eqb _ _ other in rw test (sym (get_or-set_other cells k x (Some v) None other)))
    ]

pub stored_set : (cells : List (Option ℕ)) (k v : ℕ) → k < length cells → with_value (values_of cells) k v ≡ values_of (set cells k (Some v))
stored_set cells k v inside = fun_ext (λ x. stored_set_at cells k v x inside)

-- what is left to store in a row once one byte more is stored
pub row_more : (cells : List (Option ℕ)) (place k : ℕ) (value : List ℕ) → k < length value → place + k < length cells
    → with_values (values_of (set cells (place + k) (Some (get_or value k 0)))) (place + (k + 1)) (drop (k + 1) value) ≡ with_values (values_of cells) (place + k) (drop k value)
row_more cells place k value within inside =
    let next : place + (k + 1) ≡ (place + k) + 1 = omega arith in
    let rest : drop k value ≡ get_or value k 0 ∷ drop (k + 1) value = rw (add-one, drop-cons value k 0) refl in
    ap (λ a. with_values (values_of (set cells (place + k) (Some (get_or value k 0)))) a (drop (k + 1) value)) next
    ∙ ap (λ (m : Partial). with_values m ((place + k) + 1) (drop (k + 1) value)) (sym (stored_set cells (place + k) (get_or value k 0) inside))
    ∙ sym (ap (with_values (values_of cells) (place + k)) rest)

pub room_for_one : (s : Stack) → 1 ≤ frames_in s
room_for_one (One cells) = omega arith
room_for_one (All cells) = omega arith

-- ---- callers

pub callers_count : (kept : List Kept) (n : ℕ) → length (callers_of kept n) ≡ n
callers_count kept zero = refl
callers_count kept (suc n) = ap suc (callers_count kept n)

pub callers_before : (kept : List Kept) (m n : ℕ) (caller : Kept) → m ≤ n → callers_of (set kept n caller) m ≡ callers_of kept m
callers_before kept zero n caller le = refl
callers_before kept (suc m) n caller le =
    let rest = callers_before kept m n caller (omega (arith, le)) in
    let here : get_or (set kept n caller) m no_caller ≡ get_or kept m no_caller = get_or-set_other kept n m caller no_caller (λ e. absurd (omega (arith, le, e))) in
    rw (rest, here) refl
