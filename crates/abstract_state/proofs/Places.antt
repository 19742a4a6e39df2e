-- Frames of called functions, as the code keeps them.
use Rattle.std.proofs.Common.{◌≡◌, ℕ, zero, suc, ◌+◌, ◌<◌, List, [], ◌∷◌, ◌++◌, length, map, take, drop, replicate, Option, Some, None, Result, Ok, Err, get_or, set, refl, sym, ap, ap₂, ◌∙◌, inl, inr, get_or-set_same, get_or-set_other, arith}
use Rattle.std.proofs.lemmas.Bool.{cases_eq}
use Rattle.std.specs.Prelude.{IfErr, pos, false}
use Rattle.std.specs.Option.{is_some}
use Rattle.std.specs.Global.{Box}
use Rattle.bpf_model.specs.declared.cause.Cause.{Cause}
use Rattle.abstract_values.specs.declared.value.AbstractValue.{AbstractValue}
use Rattle.abstract_state.specs.declared.state.Called.{Called}
use Rattle.abstract_values.specs.declared.value.AbstractValue.TheVariants.{Unset, Stack}
use Rattle.abstract_state.specs.declared.state.Frame.{Frame}
use Rattle.abstract_values.specs.Values.{join_of}
use Rattle.abstract_state.specs.States.{AbstractState, elementwise, join_if_live, new_frame, nothing_kept, without_pointer, without_pointers, kept_of, callee_state, left_state}
use Rattle.abstract_state.specs.Called.{frame_called, kept_by}
use Rattle.abstract_state.proofs.Zipped.{with_none}

abbrev pub Boxes : Type 0
Boxes = List (Option (Box Called))

-- ---- a list under a map

mapped : {A B : Type 0} (f : A → B) (z : A) (w : B) (xs : List A) (k : ℕ) → f z ≡ w → get_or (map f xs) k w ≡ f (get_or xs k z)
mapped f z w [] k e = sym e
mapped f z w (x ∷ xs) zero e = refl
mapped f z w (x ∷ xs) (suc k) e = mapped f z w xs k e

-- ---- which frame is there

-- frame 1 and those above stand behind frame 0
pub above : (main : Option Frame) (called : Boxes) (frame at : ℕ) → frame ≡ suc at → get_or (main ∷ map frame_called called) frame None ≡ frame_called (get_or called at None)
above main called frame at same = rw same (mapped frame_called None None called at refl)

-- what was read is there, whatever is told of places past the end
pub read_none : (called : Boxes) (at : ℕ) (d : Option (Box Called)) → d ≡ get_or called at d → get_or called at d ≡ None → get_or called at None ≡ None
read_none called at d same none =
    let is : d ≡ None = same ∙ none in
    (rw is at none)

pub read_some : (called : Boxes) (at : ℕ) (d : Option (Box Called)) (b : Box Called) → at < length called → get_or called at d ≡ Some b → get_or called at None ≡ Some b
read_some [] at d b lt is = absurd (omega (arith, lt))
read_some (x ∷ xs) zero d b lt is = is
read_some (x ∷ xs) (suc at) d b lt is = read_some xs at d b (omega (arith, lt)) is

-- ---- what is put back

pub frames_put : (called : Boxes) (at : ℕ) (o x : Option (Box Called)) → map frame_called (set (set called at o) at x) ≡ set (map frame_called called) at (frame_called x)
frames_put [] at o x = refl
frames_put (y ∷ ys) zero o x = refl
frames_put (y ∷ ys) (suc at) o x = ap (λ rest. frame_called y ∷ rest) (frames_put ys at o x)

pub kept_put : (called : Boxes) (at : ℕ) (o x : Option (Box Called)) (b : Box Called) → get_or called at None ≡ Some b → kept_by x ≡ b.value.kept → map kept_by (set (set called at o) at x) ≡ map kept_by called
kept_put [] at o x b is same = refl
kept_put (y ∷ ys) zero o x b is same =
    let e : kept_by y ≡ kept_by x = ap kept_by is ∙ sym same in
    ap (λ v. v ∷ map kept_by ys) (sym e)
kept_put (y ∷ ys) (suc at) o x b is same = ap (λ rest. kept_by y ∷ rest) (kept_put ys at o x b is same)

-- what is as it was is put back
pub frames_back : (called : Boxes) (at : ℕ) (o x : Option (Box Called)) (b : Box Called) → get_or called at None ≡ Some b → frame_called x ≡ frame_called (Some b) → map frame_called (set (set called at o) at x) ≡ map frame_called called
frames_back [] at o x b is same = refl
frames_back (y ∷ ys) zero o x b is same =
    let e : frame_called y ≡ frame_called x = ap frame_called is ∙ sym same in
    ap (λ v. v ∷ map frame_called ys) (sym e)
frames_back (y ∷ ys) (suc at) o x b is same = ap (λ rest. frame_called y ∷ rest) (frames_back ys at o x b is same)

abbrev pub known : List AbstractValue → List (Option Frame) → List (List AbstractValue) → AbstractState
known registers frames kept = record { registers = registers; frames = frames; kept = kept }

-- the state with another frame above frame 0
pub with_called : (registers : List AbstractValue) (main : Option Frame) (called after : Boxes) (frame at : ℕ) (f : Option Frame) → frame ≡ suc at → map frame_called after ≡ set (map frame_called called) at f → map kept_by after ≡ map kept_by called → known registers (main ∷ map frame_called after) (map kept_by after) ≡ known registers (set (main ∷ map frame_called called) frame f) (map kept_by called)
with_called registers main called after frame at f same frames kept = rw (same, frames, kept) refl

-- a state whose frames are in a table
pub told_of : (registers : List AbstractValue) (main : Option Frame) (called before : Boxes) → called ≡ before → (s : AbstractState) → known registers (main ∷ map frame_called called) (map kept_by called) ≡ s → known registers (main ∷ map frame_called before) (map kept_by before) ≡ s
told_of registers main called before same s is =
    ap (λ (l : Boxes). known registers (main ∷ map frame_called l) (map kept_by l)) (sym same) ∙ is

-- ---- for the code's answers, where a frame was taken, written and put back

pub there_now : (called : Boxes) (at : ℕ) (o x : Option (Box Called)) → at < length called → get_or (set (set called at o) at x) at None ≡ x
there_now [] at o x lt = absurd (omega (arith, lt))
there_now (y ∷ ys) zero o x lt = refl
there_now (y ∷ ys) (suc at) o x lt = there_now ys at o x (omega (arith, lt))

-- what stands somewhere is put there again
pub again : {A : Type 0} (fs : List A) (at : ℕ) (z f : A) → get_or fs at z ≡ f → fs ≡ set fs at f
again [] at z f is = refl
again (y ∷ ys) zero z f is = ap (λ v. v ∷ ys) is
again (y ∷ ys) (suc at) z f is = ap (λ rest. y ∷ rest) (again ys at z f is)

-- what is so where a cause was found
pub refused_map : (r : Result (Unit {0}) Cause) (P Q : Type 0) → (P → Q) → IfErr r (λ cause. P) → IfErr r (λ cause. Q)
refused_map (Ok done) P Q f h = tt
refused_map (Err cause) P Q f h = f h

-- ---- each element in turn

pub mapped_step : {A : Type 0} (f : A → A) (z : A) (xs : List A) (i : ℕ) → i < length xs → take i xs ++ map f (drop i xs) ≡ take (suc i) (set xs i (f (get_or xs i z))) ++ map f (drop (suc i) (set xs i (f (get_or xs i z))))
mapped_step f z [] i lt = absurd (omega (arith, lt))
mapped_step f z (x ∷ xs) zero lt = refl
mapped_step f z (x ∷ xs) (suc i) lt = ap (λ rest. x ∷ rest) (mapped_step f z xs i (omega (arith, lt)))

pub mapped_next : {A : Type 0} (f : A → A) (z : A) (xs ys : List A) (i : ℕ) → i < length xs → ys ≡ set xs i (f (get_or xs i z)) → take (i + 1) ys ++ map f (drop (i + 1) ys) ≡ take i xs ++ map f (drop i xs)
mapped_next f z xs ys i lt is =
    let next : i + 1 ≡ suc i = omega arith in
    ap (λ n. take n ys ++ map f (drop n ys)) next ∙ ap (λ l. take (suc i) l ++ map f (drop (suc i) l)) is ∙ sym (mapped_step f z xs i lt)

pub mapped_inside : {A B : Type 0} (f : A → B) (z : A) (w : B) (xs : List A) (k : ℕ) → k < length xs → get_or (map f xs) k w ≡ f (get_or xs k z)
mapped_inside f z w [] k lt = absurd (omega (arith, lt))
mapped_inside f z w (x ∷ xs) zero lt = refl
mapped_inside f z w (x ∷ xs) (suc k) lt = mapped_inside f z w xs k (omega (arith, lt))

pub map_put : {A B : Type 0} (f : A → B) (xs : List A) (k : ℕ) (x : A) → map f (set xs k x) ≡ set (map f xs) k (f x)
map_put f [] k x = refl
map_put f (y ∷ ys) zero x = refl
map_put f (y ∷ ys) (suc k) x = ap (λ rest. f y ∷ rest) (map_put f ys k x)

pub kept_same : (called : Boxes) (at : ℕ) (o x d : Option (Box Called)) → at < length called → kept_by x ≡ kept_by (get_or called at d) → map kept_by (set (set called at o) at x) ≡ map kept_by called
kept_same [] at o x d lt same = refl
kept_same (y ∷ ys) zero o x d lt same = ap (λ v. v ∷ map kept_by ys) same
kept_same (y ∷ ys) (suc at) o x d lt same = ap (λ rest. kept_by y ∷ rest) (kept_same ys at o x d (omega (arith, lt)) same)

-- ---- a function is entered, and left

pub entered : (registers : List AbstractValue) (main : Option Frame) (called : Boxes) (k caller : ℕ) (x : Option (Box Called)) → k ≡ caller → frame_called x ≡ Some new_frame → kept_by x ≡ get_or registers 6 Unset ∷ get_or registers 7 Unset ∷ get_or registers 8 Unset ∷ get_or registers 9 Unset ∷ []
    → known (Unset ∷ get_or registers 1 Unset ∷ get_or registers 2 Unset ∷ get_or registers 3 Unset ∷ get_or registers 4 Unset ∷ get_or registers 5 Unset ∷ Unset ∷ Unset ∷ Unset ∷ Unset ∷ Stack (caller + 1) (pos 0) ∷ []) (main ∷ map frame_called (set called k x)) (map kept_by (set called k x))
    ≡ callee_state caller (known registers (main ∷ map frame_called called) (map kept_by called))
entered registers main called k caller x same frame kept =
    let more : caller + 1 ≡ suc caller = omega arith in
    rw (same, more, map_put frame_called called caller x, map_put kept_by called caller x, frame, kept) refl

pub left : (registers : List AbstractValue) (f : Frame) (called after : Boxes) (k caller : ℕ) (kept : List AbstractValue) (cleared : List AbstractValue) → k ≡ caller
    → ((i : ℕ) → get_or kept i Unset ≡ kept_of (map kept_by called) k i)
    → cleared ≡ map (without_pointer (caller + 1)) f.slots
    → map frame_called after ≡ map (without_pointers (k + 1)) (set (map frame_called called) k None)
    → map kept_by after ≡ set (map kept_by called) k nothing_kept
    → known (get_or registers 0 Unset ∷ Unset ∷ Unset ∷ Unset ∷ Unset ∷ Unset ∷ get_or kept 0 Unset ∷ get_or kept 1 Unset ∷ get_or kept 2 Unset ∷ get_or kept 3 Unset ∷ Stack caller (pos 0) ∷ []) (Some (record f { slots = cleared }) ∷ map frame_called after) (map kept_by after)
    ≡ left_state caller (known registers (Some f ∷ map frame_called called) (map kept_by called))
left registers f called after k caller kept cleared same is clears frames keeps =
    let more : caller + 1 ≡ suc caller = omega arith in
    let frames_are : map frame_called after ≡ map (without_pointers (suc caller)) (set (map frame_called called) caller None) = (rw (same, more) at frames) in
    let kept_are : map kept_by after ≡ set (map kept_by called) caller nothing_kept = (rw same at keeps) in
    let cleared_are : cleared ≡ map (without_pointer (suc caller)) f.slots = (rw more at clears) in
    let e0 : get_or kept 0 Unset ≡ kept_of (map kept_by called) caller 0 = (rw same at (is 0)) in
    let e1 : get_or kept 1 Unset ≡ kept_of (map kept_by called) caller 1 = (rw same at (is 1)) in
    let e2 : get_or kept 2 Unset ≡ kept_of (map kept_by called) caller 2 = (rw same at (is 2)) in
    let e3 : get_or kept 3 Unset ≡ kept_of (map kept_by called) caller 3 = (rw same at (is 3)) in
    rw (e0, e1, e2, e3, frames_are, kept_are, cleared_are) refl

pub mapped_long : {A B : Type 0} (f : A → B) (xs : List A) (k : ℕ) → k < length xs → k < length (map f xs)
mapped_long f [] k lt = absurd (omega (arith, lt))
mapped_long f (x ∷ xs) zero lt = omega arith
mapped_long f (x ∷ xs) (suc k) lt = (let rest = mapped_long f xs k (omega (arith, lt)) in omega (arith, rest))

pub default_apart : {A : Type 0} (xs : List A) (j k : ℕ) (d e : A) → j ≡ k → k < length xs → get_or xs j d ≡ get_or xs k e
default_apart [] j k d e same lt = absurd (omega (arith, lt))
default_apart (x ∷ xs) j zero d e same lt = rw same refl
default_apart (x ∷ xs) j (suc k) d e same lt = rw same (default_apart xs k k d e refl (omega (arith, lt)))

pub mapped_length : {A B : Type 0} (f : A → B) (xs : List A) → length (map f xs) ≡ length xs
mapped_length f [] = refl
mapped_length f (x ∷ xs) = ap suc (mapped_length f xs)

pub kept_at_put : (called : Boxes) (at : ℕ) (o x : Option (Box Called)) → map kept_by (set (set called at o) at x) ≡ set (map kept_by called) at (kept_by x)
kept_at_put [] at o x = refl
kept_at_put (y ∷ ys) zero o x = refl
kept_at_put (y ∷ ys) (suc at) o x = ap (λ rest. kept_by y ∷ rest) (kept_at_put ys at o x)

-- ---- copies

-- the first so many places tell the same
abbrev pub SameBelow : Boxes → Boxes → ℕ → Type 0
SameBelow xs ys n =
    (j : ℕ) → j < n → (frame_called (get_or xs j None) ≡ frame_called (get_or ys j None)) × (kept_by (get_or xs j None) ≡ kept_by (get_or ys j None))

pub same_more : (xs ys : Boxes) (i : ℕ) (x y : Option (Box Called)) → i < length xs → i < length ys → y ≡ get_or ys i y → frame_called x ≡ frame_called y → kept_by x ≡ kept_by y → SameBelow xs ys i → SameBelow (set xs i x) ys (i + 1)
same_more xs ys i x y lt there is frames kept before j under =
    elim (cases_eq j i) [
      | inl same ↦
          let mine : get_or (set xs i x) i None ≡ x = get_or-set_same xs i x None lt in
          let other : get_or ys i None ≡ y = default_apart ys i i None y refl there ∙ sym is in
          rw same ((ap frame_called mine ∙ frames ∙ ap frame_called (sym other), ap kept_by mine ∙ kept ∙ ap kept_by (sym other)))
      | inr apart ↦
          let mine : get_or (set xs i x) j None ≡ get_or xs j None = get_or-set_other xs i j x None apart in
          let old = before j (omega (arith, under, apart)) in
          (ap frame_called mine ∙ old.0, ap kept_by mine ∙ old.1)
    ]

pub maps_same : {B : Type 0} (f : Option (Box Called) → B) (xs ys : Boxes) → length xs ≡ length ys → ((j : ℕ) → j < length xs → f (get_or xs j None) ≡ f (get_or ys j None)) → map f xs ≡ map f ys
maps_same f [] [] same h = refl
maps_same f [] (y ∷ ys) same h = absurd (omega (arith, same))
maps_same f (x ∷ xs) [] same h = absurd (omega (arith, same))
maps_same f (x ∷ xs) (y ∷ ys) same h =
    let head : f x ≡ f y = h 0 (omega arith) in
    let rest = maps_same f xs ys (omega (arith, same)) (λ j lt. h (suc j) (omega (arith, lt))) in
    ap₂ (λ a b. a ∷ b) head rest

pub both_same : (xs ys : Boxes) (n : ℕ) → length xs ≡ n → length ys ≡ n → SameBelow xs ys n → (map frame_called xs ≡ map frame_called ys) × (map kept_by xs ≡ map kept_by ys)
both_same xs ys n long other same =
    (maps_same frame_called xs ys (long ∙ sym other) (λ j lt. (same j (omega (arith, lt, long))).0), maps_same kept_by xs ys (long ∙ sym other) (λ j lt. (same j (omega (arith, lt, long))).1))

-- ---- no function is called

pub none_there : (xs : Boxes) (n : ℕ) → length xs ≡ n → ((j : ℕ) → j < n → get_or xs j None ≡ None) → xs ≡ replicate n None
none_there [] zero long h = refl
none_there [] (suc n) long h = absurd (omega (arith, long))
none_there (x ∷ xs) zero long h = absurd (omega (arith, long))
none_there (x ∷ xs) (suc n) long h =
    ap₂ (λ a b. a ∷ b) (h 0 (omega arith)) (none_there xs n (omega (arith, long)) (λ j lt. h (suc j) (omega (arith, lt))))

-- nothing comes of a join with nothing
pub none_live : (called : Boxes) (n : ℕ) → length called ≡ n → elementwise join_if_live (map frame_called called) (replicate n None) ≡ replicate n None
none_live [] zero long = refl
none_live [] (suc n) long = absurd (omega (arith, long))
none_live (x ∷ xs) zero long = absurd (omega (arith, long))
none_live (None ∷ xs) (suc n) long = ap (λ rest. None ∷ rest) (none_live xs n (omega (arith, long)))
none_live (Some b ∷ xs) (suc n) long = ap (λ rest. None ∷ rest) (none_live xs n (omega (arith, long)))

pub nothing_joined : (called : Boxes) (n : ℕ) → length called ≡ n → elementwise (elementwise join_of) (map kept_by called) (replicate n nothing_kept) ≡ replicate n nothing_kept
nothing_joined [] zero long = refl
nothing_joined [] (suc n) long = absurd (omega (arith, long))
nothing_joined (x ∷ xs) zero long = absurd (omega (arith, long))
nothing_joined (x ∷ xs) (suc n) long =
    ap₂ (λ a b. a ∷ b) (with_none join_of (kept_by x)) (nothing_joined xs n (omega (arith, long)))

pub not_some : (o : Option (Box Called)) → is_some o ≡ false → o ≡ None
not_some None none = refl
not_some (Some b) none = absurd (cc none)
