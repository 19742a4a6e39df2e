-- The numbers of pairs, one after another.
use Rattle.std.proofs.Common.{◌≡◌, ℕ, ◌+◌, ◌-◌, ◌<◌, ◌≤◌, List, Option, Some, [], ◌∷◌, ◌++◌, length, take, drop, get_or, refl, sym, ap, ◌∙◌, append_assoc, append-nil, length-drop, arith}
use Rattle.std.specs.Prelude.{slice_range, slice_set}
use Rattle.std.specs.List.{filter_map}
use Rattle.std.proofs.lemmas.List.{take_more, take_more_set, drop-set-lt, drop-drop, length-set, length-take-le, get_or-drop}
use Rattle.bpf_image.specs.Program.{Program}
use Rattle.bpf_model.specs.Run.{number_for}
use Rattle.graph_model.specs.Graph.{Graph}
use Rattle.map_model.specs.EdgeMap.{input_record}
use Rattle.map_model.specs.Parts.{place_of, pair_numbers}
use Rattle.verifier.specs.Walks.{longest}
use Rattle.map_model.specs.EdgeMap.{Inputs}

module _ (p : Program) (g : Graph) (inputs : Inputs) where
  -- one pair more
  pub pair_more : (xs ys : List ℕ) (x y n : ℕ) → length ys ≡ length xs
      → number_for p (longest p) g (input_record g x y (place_of g x y) inputs) ≡ Some n
      → pair_numbers p (longest p) g inputs (xs ++ x ∷ []) (ys ++ y ∷ []) ≡ pair_numbers p (longest p) g inputs xs ys ++ n ∷ []
  pair_more [] [] x y n alike is = rw is refl
  pair_more [] (b ∷ ys) x y n alike is = absurd (omega (arith, alike))
  pair_more (a ∷ xs) [] x y n alike is = absurd (omega (arith, alike))
  pair_more (a ∷ xs) (b ∷ ys) x y n alike is =
      let first = filter_map (λ (number : Option ℕ). number) (number_for p (longest p) g (input_record g a b (place_of g a b) inputs) ∷ []) in
      ap (λ l. first ++ l) (pair_more xs ys x y n (omega (arith, alike)) is)
      ∙ sym (append_assoc first (pair_numbers p (longest p) g inputs xs ys) (n ∷ []))

  -- one item more of a range
  range_more : (xs : List ℕ) (from at : ℕ) → from ≤ at → at < length xs → slice_range xs from (at + 1) ≡ slice_range xs from at ++ get_or xs at 0 ∷ []
  range_more xs from at back inside =
      let next : at + 1 - from ≡ (at - from) + 1 = omega (arith, back) in
      let there : from + (at - from) ≡ at = omega (arith, back) in
      ap (λ k. take k (drop from xs)) next
      ∙ take_more (drop from xs) (at - from) 0 (omega (arith, length-drop from xs, back, inside))
      ∙ ap (λ d. take (at - from) (drop from xs) ++ d ∷ []) (get_or-drop from xs (at - from) 0 ∙ ap (λ k. get_or xs k 0) there)

  -- the pairs from one place to another have their numbers, and the others are as they were
  pub record ArePaired (sources targets old numbers : List ℕ) (from at : ℕ) : Type 0 where
    pub long : length numbers ≡ length old
    pub written : take at numbers ≡ take from old ++ pair_numbers p (longest p) g inputs (slice_range sources from at) (slice_range targets from at)
    pub rest : drop at numbers ≡ drop at old

  pub none_paired : (sources targets old : List ℕ) (from : ℕ) → ArePaired sources targets old old from from
  none_paired sources targets old from =
      let none : from - from ≡ 0 = omega arith in
      record {
        long = refl;
        written = sym (ap (λ k. take from old ++ pair_numbers p (longest p) g inputs (take k (drop from sources)) (take k (drop from targets))) none ∙ append-nil (take from old));
        rest = refl;
      }

  pub one_paired : (sources targets old numbers : List ℕ) (from at n : ℕ) → ArePaired sources targets old numbers from at
      → length targets ≡ length sources → from ≤ at → at < length sources → length old ≡ length sources
      → number_for p (longest p) g (input_record g (get_or sources at 0) (get_or targets at 0) (place_of g (get_or sources at 0) (get_or targets at 0)) inputs) ≡ Some n
      → ArePaired sources targets old (slice_set numbers at n) from (at + 1)
  one_paired sources targets old numbers from at n done alike back inside long is =
      let xs = slice_range sources from at in
      let ys = slice_range targets from at in
      let count : length xs ≡ at - from = length-take-le (at - from) (drop from sources) (omega (arith, length-drop from sources, inside)) in
      let many : length ys ≡ at - from = length-take-le (at - from) (drop from targets) (omega (arith, length-drop from targets, inside, alike)) in
      let more = pair_more xs ys (get_or sources at 0) (get_or targets at 0) n (omega (arith, count, many)) is in
      record {
        long = length-set numbers at n ∙ done.long;
        written = take_more_set numbers at n (omega (arith, done.long, long, inside))
            ∙ ap (λ l. l ++ n ∷ []) done.written
            ∙ append_assoc (take from old) (pair_numbers p (longest p) g inputs xs ys) (n ∷ [])
            ∙ ap (λ l. take from old ++ l) (sym more)
            ∙ ap (λ l. take from old ++ pair_numbers p (longest p) g inputs l (ys ++ get_or targets at 0 ∷ [])) (sym (range_more sources from at back inside))
            ∙ ap (λ l. take from old ++ pair_numbers p (longest p) g inputs (slice_range sources from (at + 1)) l) (sym (range_more targets from at back (omega (arith, inside, alike))));
        rest = drop-set-lt (at + 1) numbers at n (omega arith) ∙ sym (drop-drop 1 at numbers) ∙ ap (drop 1) done.rest ∙ drop-drop 1 at old;
      }
