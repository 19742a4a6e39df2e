-- Numbers that are written to the first places of an array, part by part; the other places stay.
use Rattle.std.proofs.Common.{◌≡◌, ℕ, ◌+◌, ◌-◌, ◌≤◌, List, ◌++◌, length, take, drop, refl, sym, ap, ◌∙◌, append_assoc, length-append, length-drop, arith}
use Rattle.std.proofs.lemmas.List.{take_at, drop_at, drop-drop, drop-append-le, take-append-drop, length-take-le}
use borrow.Rule.Slice.PartMut.{put_mid}
use Rattle.bpf_image.specs.Program.{Program}
use Rattle.graph_model.specs.Graph.{Graph}
use Rattle.edge_fold.proofs.Numbers.{found}
use Rattle.edge_fold.proofs.Written.{more_found}
use Rattle.map_model.specs.EdgeMap.{Inputs}

-- a part after the first places is written as far as it goes
pub filled : (old numbers part early late : List ℕ) (at n k : ℕ)
    → numbers ≡ early ++ drop at old → length early ≡ at → at + k ≤ length old → n ≤ k
    → part ≡ late ++ drop n (take k (drop at numbers)) → put_mid at k numbers part ≡ (early ++ late) ++ drop (at + n) old
filled old numbers part early late at n k is long fits few row =
    let rest = drop at old in
    let first : take at numbers ≡ early = ap (take at) is ∙ take_at early rest at long in
    let behind : drop at numbers ≡ rest = ap (drop at) is ∙ drop_at early rest at long in
    let size : n ≤ length (take k rest) = omega (arith, few, length-take-le k rest (omega (arith, fits, length-drop at old))) in
    let cut : drop n (take k rest) ++ drop k rest ≡ drop n rest = sym (drop-append-le n (take k rest) (drop k rest) size) ∙ ap (drop n) (take-append-drop k rest) in
    ap (λ l. l ++ (part ++ drop k (drop at numbers))) first
    ∙ ap (λ l. early ++ (part ++ drop k l)) behind
    ∙ ap (λ l. early ++ (l ++ drop k rest)) (row ∙ ap (λ l. late ++ drop n (take k l)) behind)
    ∙ ap (λ l. early ++ l) (append_assoc late (drop n (take k rest)) (drop k rest) ∙ ap (λ l. late ++ l) (cut ∙ drop-drop n at old))
    ∙ sym (append_assoc early late (drop (at + n) old))

-- a part's numbers are as many as it wrote
pub late_count : (numbers part late : List ℕ) (at n k : ℕ) → at + k ≤ length numbers → n ≤ k → length part ≡ k
    → part ≡ late ++ drop n (take k (drop at numbers)) → length late ≡ n
late_count numbers part late at n k fits few long is =
    let old = take k (drop at numbers) in
    omega (
      arith,
      ap length is,
      length-append late (drop n old),
      length-drop n old,
      length-take-le k (drop at numbers) (omega (arith, fits, length-drop at numbers)),
      long,
      few,
    )

-- the numbers of the first targets are written, and the other places are as they were
pub record IsFilled (p : Program) (g : Graph) (inputs : Inputs) (source first : ℕ) (targets old numbers : List ℕ) (at : ℕ) : Type 0 where
  pub within : at ≤ length targets
  pub room : at ≤ length old
  pub count : length (found p g inputs source first (take at targets)) ≡ at
  pub written : numbers ≡ found p g inputs source first (take at targets) ++ drop at old

pub filled_long : (p : Program) (g : Graph) (inputs : Inputs) (source first : ℕ) (targets old numbers : List ℕ) (at : ℕ)
    → IsFilled p g inputs source first targets old numbers at → length numbers ≡ length old
filled_long p g inputs source first targets old numbers at done =
    omega (arith, ap length done.written, length-append (found p g inputs source first (take at targets)) (drop at old), done.count, length-drop at old, done.room)

pub none_filled : (p : Program) (g : Graph) (inputs : Inputs) (source first : ℕ) (targets old : List ℕ) → IsFilled p g inputs source first targets old old 0
none_filled p g inputs source first targets old = record { within = omega arith; room = omega arith; count = refl; written = refl }

pub more_filled : (p : Program) (g : Graph) (inputs : Inputs) (source first : ℕ) (targets old numbers part : List ℕ) (at n k : ℕ)
    → IsFilled p g inputs source first targets old numbers at → at + k ≤ length old → n ≤ k → at + n ≤ length targets → length part ≡ k
    → part ≡ found p g inputs source (first + at) (take n (drop at targets)) ++ drop n (take k (drop at numbers))
    → IsFilled p g inputs source first targets old (put_mid at k numbers part) (at + n)
more_filled p g inputs source first targets old numbers part at n k done fits few inside long is =
    let early = found p g inputs source first (take at targets) in
    let late = found p g inputs source (first + at) (take n (drop at targets)) in
    let more : found p g inputs source first (take (at + n) targets) ≡ early ++ late = more_found p g inputs source first targets at n done.within in
    let same = filled_long p g inputs source first targets old numbers at done in
    let count : length late ≡ n = late_count numbers part late at n k (omega (arith, fits, same)) few long is in
    record {
      within = inside;
      room = omega (arith, fits, few);
      count = omega (arith, ap length more, length-append early late, done.count, count);
      written = filled old numbers part early late at n k done.written done.count fits few is ∙ ap (λ l. l ++ drop (at + n) old) (sym more);
    }

-- the same of a part that reaches to the end
pub rest_filled : (p : Program) (g : Graph) (inputs : Inputs) (source first : ℕ) (targets old numbers part : List ℕ) (at n : ℕ)
    → IsFilled p g inputs source first targets old numbers at → n ≤ length old - at → at + n ≤ length targets
    → length part ≡ length (take (length numbers - at) (drop at numbers))
    → part ≡ found p g inputs source (first + at) (take n (drop at targets)) ++ drop n (take (length numbers - at) (drop at numbers))
    → IsFilled p g inputs source first targets old (put_mid at (length numbers - at) numbers part) (at + n)
rest_filled p g inputs source first targets old numbers part at n done few inside long is =
    let same = filled_long p g inputs source first targets old numbers at done in
    let held : length (take (length numbers - at) (drop at numbers)) ≡ length numbers - at = length-take-le (length numbers - at) (drop at numbers) (omega (arith, length-drop at numbers)) in
    more_filled p g inputs source first targets old numbers part at n (length numbers - at) done (omega (arith, same, done.room)) (omega (arith, same, few)) inside (long ∙ held) is
