-- Numbers that are written one vertex after another, as far as there is room.
use Rattle.std.proofs.Common.{◌≡◌, ℕ, ◌+◌, ◌-◌, ◌≤◌, List, [], ◌++◌, length, take, drop, refl, sym, ap, ◌∙◌, append_assoc, append-nil, length-append, length-drop, arith}
use Rattle.std.proofs.lemmas.List.{take_at, drop_at, length-take-le}
use borrow.Rule.Slice.PartMut.{put_mid}
use Rattle.edge_fold.proofs.Filled.{filled, late_count}

-- some numbers follow others, and stand in the first places of an array; its other places are as they were
pub record AreListed (before now old numbers : List ℕ) (at : ℕ) : Type 0 where
  pub done : List ℕ
  pub follow : now ≡ before ++ done
  pub count : length done ≡ at
  pub room : at ≤ length old
  pub written : numbers ≡ done ++ drop at old

pub none_listed : (before now old : List ℕ) → now ≡ before → AreListed before now old old 0
none_listed before now old same = record { done = []; follow = same ∙ sym (append-nil before); count = refl; room = omega arith; written = refl }

-- so many more, in a part that reaches to the end
pub more_listed : (before now next old numbers part late : List ℕ) (at n : ℕ) → AreListed before now old numbers at
    → n ≤ length (take (length numbers - at) (drop at numbers)) → length part ≡ length (take (length numbers - at) (drop at numbers))
    → part ≡ late ++ drop n (take (length numbers - at) (drop at numbers)) → next ≡ now ++ late
    → AreListed before next old (put_mid at (length numbers - at) numbers part) (at + n)
more_listed before now next old numbers part late at n list few long is follows =
    let left = length numbers - at in
    let same : length numbers ≡ length old = omega (arith, ap length list.written, length-append list.done (drop at old), list.count, length-drop at old, list.room) in
    let held : length (take left (drop at numbers)) ≡ left = length-take-le left (drop at numbers) (omega (arith, length-drop at numbers)) in
    let count : length late ≡ n = late_count numbers part late at n left (omega (arith, same, list.room)) (omega (arith, few, held)) (long ∙ held) is in
    record {
      done = list.done ++ late;
      follow = follows ∙ ap (λ l. l ++ late) list.follow ∙ append_assoc before list.done late;
      count = omega (arith, length-append list.done late, list.count, count);
      room = omega (arith, few, held, same, list.room);
      written = filled old numbers part list.done late at n left list.written list.count (omega (arith, same, list.room)) (omega (arith, few, held)) is;
    }

-- the same numbers, at a place with as many before it
pub same_listed : (before now next old numbers : List ℕ) (at : ℕ) → next ≡ now → AreListed before now old numbers at → AreListed before next old numbers at
same_listed before now next old numbers at same list = record { done = list.done; follow = same ∙ list.follow; count = list.count; room = list.room; written = list.written }

pub listed_numbers : (before now old numbers : List ℕ) (at : ℕ) → AreListed before now old numbers at → now ≡ before ++ take at numbers
listed_numbers before now old numbers at list = list.follow ∙ ap (λ l. before ++ l) (sym (ap (take at) list.written ∙ take_at list.done (drop at old) at list.count))

pub listed_rest : (before now old numbers : List ℕ) (at : ℕ) → AreListed before now old numbers at → drop at numbers ≡ drop at old
listed_rest before now old numbers at list = ap (drop at) list.written ∙ drop_at list.done (drop at old) at list.count

pub listed_long : (before now old numbers : List ℕ) (at : ℕ) → AreListed before now old numbers at → length numbers ≡ length old
listed_long before now old numbers at list = omega (arith, ap length list.written, length-append list.done (drop at old), list.count, length-drop at old, list.room)
