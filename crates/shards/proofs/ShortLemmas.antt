-- A short list more after the others.
use Rattle.std.proofs.Common.{◌≡◌, ℕ, ◌+◌, ◌-◌, ◌<◌, ◌≤◌, List, [], ◌∷◌, ◌++◌, length, get_or, take, drop, refl, sym, ap, ap₂, subst, ◌∙◌, inl, inr, length-append, length-drop, arith}
use Rattle.std.proofs.lemmas.Bool.{cases_lt}
use Rattle.std.proofs.lemmas.List.{length_push, get_or_append_left, get_or_push, take-append-le, drop-append-le}
use Rattle.std.proofs.Math.Seq.{take-length, drop-append_seam}
use Rattle.word_sets.specs.Words.{IsSet}
use Rattle.shards.specs.declared.short_blocks.ShortBlocks.{ShortBlocks}
use Rattle.shards.specs.ShortBlocks.{start_of, end_of, set_at, ArePacked}

-- the same lists in other memory
pub same_set : (old new : ShortBlocks) (k : ℕ) → new.words.items ≡ old.words.items → new.ends.items ≡ old.ends.items → set_at new k ≡ set_at old k
same_set old new k words ends = ap₂ (λ ws es. take (get_or es k 0 - get_or (0 ∷ es) k 0) (drop (get_or (0 ∷ es) k 0) ws)) words ends

pub same_packed : (old new : ShortBlocks) → ArePacked old → new.words.items ≡ old.words.items → new.ends.items ≡ old.ends.items → ArePacked new
same_packed old new packed words ends =
    let few = packed.few in
    record {
      ascending = λ k h. (let is = packed.ascending k (omega (arith, ap length ends)) in omega (arith, is, ap (λ l. get_or (0 ∷ l) k 0) ends, ap (λ l. get_or l k 0) ends));
      within = λ k h. (let is = packed.within k (omega (arith, ap length ends)) in omega (arith, is, ap length words, ap (λ l. get_or l k 0) ends));
      sets = λ k h. subst IsSet (sym (same_set old new k words ends)) (packed.sets k (omega (arith, ap length ends)));
      short = λ k h. subst (λ l. length l ≤ 6) (sym (same_set old new k words ends)) (packed.short k (omega (arith, ap length ends)));
      whole = ap (λ l. get_or (0 ∷ l) (length l) 0) ends ∙ packed.whole ∙ sym (ap length words);
      few = omega (arith, few, ap length words, ap length ends);
    }

-- where lists before stay
start_stays : (old new : ShortBlocks) (e k : ℕ) → new.ends.items ≡ old.ends.items ++ e ∷ [] → k ≤ length old.ends.items → start_of new k ≡ start_of old k
start_stays old new e k ends h = ap (λ l. get_or (0 ∷ l) k 0) ends ∙ get_or_append_left (0 ∷ old.ends.items) (e ∷ []) 0 k (omega arith)

end_stays : (old new : ShortBlocks) (e k : ℕ) → new.ends.items ≡ old.ends.items ++ e ∷ [] → k < length old.ends.items → end_of new k ≡ end_of old k
end_stays old new e k ends h = ap (λ l. get_or l k 0) ends ∙ get_or_append_left old.ends.items (e ∷ []) 0 k h

pub set_stays : (old new : ShortBlocks) (w : List ℕ) (e k : ℕ) → ArePacked old → new.words.items ≡ old.words.items ++ w → new.ends.items ≡ old.ends.items ++ e ∷ [] → k < length old.ends.items → set_at new k ≡ set_at old k
set_stays old new w e k packed words ends h =
    let s = start_of old k in
    let n = end_of old k - start_of old k in
    let low = packed.ascending k h in
    let high = packed.within k h in
    ap₂ (λ a b. take (b - a) (drop a new.words.items)) (start_stays old new e k ends (omega arith)) (end_stays old new e k ends h)
    ∙ ap (λ l. take n (drop s l)) words
    ∙ ap (take n) (drop-append-le s old.words.items w (omega arith))
    ∙ take-append-le n (drop s old.words.items) w (omega (arith, length-drop s old.words.items))

-- the list more
pub set_pushed : (old new : ShortBlocks) (w : List ℕ) → ArePacked old → new.words.items ≡ old.words.items ++ w → new.ends.items ≡ old.ends.items ++ (length old.words.items + length w) ∷ [] → set_at new (length old.ends.items) ≡ w
set_pushed old new w packed words ends =
    let n = length old.words.items in
    let start : start_of new (length old.ends.items) ≡ n = start_stays old new (n + length w) (length old.ends.items) ends (omega arith) ∙ packed.whole in
    let end : end_of new (length old.ends.items) ≡ n + length w = ap (λ l. get_or l (length old.ends.items) 0) ends ∙ get_or_push old.ends.items (n + length w) 0 (length old.ends.items) refl in
    let many : (n + length w) - n ≡ length w = omega arith in
    ap₂ (λ a b. take (b - a) (drop a new.words.items)) start end
    ∙ ap (λ l. take ((n + length w) - n) (drop n l)) words
    ∙ ap (take ((n + length w) - n)) (drop-append_seam old.words.items w)
    ∙ ap (λ m. take m w) many
    ∙ take-length w

pub packed_more : (old new : ShortBlocks) (w : List ℕ) → ArePacked old → IsSet w → length w ≤ 6 → new.words.items ≡ old.words.items ++ w → new.ends.items ≡ old.ends.items ++ (length old.words.items + length w) ∷ [] → ArePacked new
packed_more old new w packed set short words ends =
    let n = length old.words.items in
    let e = n + length w in
    let m = length old.ends.items in
    let few = packed.few in
    let long : length new.ends.items ≡ m + 1 = ap length ends ∙ length_push old.ends.items e in
    let all : length new.words.items ≡ e = ap length words ∙ length-append old.words.items w in
    let end : end_of new m ≡ e = ap (λ l. get_or l m 0) ends ∙ get_or_push old.ends.items e 0 m refl in
    record {
      ascending = λ k h. elim (cases_lt k m) [
        | inl lt ↦ (let is = packed.ascending k lt in omega (arith, is, start_stays old new e k ends (omega arith), end_stays old new e k ends lt))
        | inr ge ↦ (let same : m ≡ k = omega (arith, long) in subst (λ j. start_of new j ≤ end_of new j) same (omega (arith, start_stays old new e m ends (omega arith), packed.whole, end)))
      ];
      within = λ k h. elim (cases_lt k m) [
        | inl lt ↦ (let is = packed.within k lt in omega (arith, is, all, end_stays old new e k ends lt))
        | inr ge ↦ (let same : m ≡ k = omega (arith, long) in subst (λ j. end_of new j ≤ length new.words.items) same (omega (arith, all, end)))
      ];
      sets = λ k h. elim (cases_lt k m) [
        | inl lt ↦ subst IsSet (sym (set_stays old new w e k packed words ends lt)) (packed.sets k lt)
        | inr ge ↦ (let same : m ≡ k = omega (arith, long) in subst (λ j. IsSet (set_at new j)) same (subst IsSet (sym (set_pushed old new w packed words ends)) set))
      ];
      short = λ k h. elim (cases_lt k m) [
        | inl lt ↦ subst (λ l. length l ≤ 6) (sym (set_stays old new w e k packed words ends lt)) (packed.short k lt)
        | inr ge ↦ (let same : m ≡ k = omega (arith, long) in subst (λ j. length (set_at new j) ≤ 6) same (subst (λ l. length l ≤ 6) (sym (set_pushed old new w packed words ends)) short))
      ];
      whole = ap (λ j. start_of new j) long ∙ ap (λ l. get_or (0 ∷ l) (m + 1) 0) ends ∙ last m old.ends.items refl ∙ sym all;
      few = omega (arith, few, all, long);
    }
  where
    last : (j : ℕ) (es : List ℕ) → length es ≡ j → get_or (0 ∷ (es ++ (length old.words.items + length w) ∷ [])) (j + 1) 0 ≡ length old.words.items + length w
    last j es is = get_or_push (0 ∷ es) (length old.words.items + length w) 0 (j + 1) (omega arith)
