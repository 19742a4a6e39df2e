-- A short list in place of another one.
use Rattle.std.proofs.Common.{◌≡◌, ℕ, zero, suc, ◌+◌, ◌-◌, ◌*◌, ◌<◌, ◌≤◌, List, ◌++◌, length, take, drop, refl, sym, ap, ap₂, subst, ◌∙◌, inl, inr, length-append, length-drop, take_at, drop_at, arith}
use Rattle.std.proofs.lemmas.Bool.{cases_lt}
use Rattle.std.proofs.lemmas.List.{take-append-le, drop-append-le, take-append-drop, drop-drop, length-take-le}
use Rattle.word_sets.specs.Words.{IsSet}
use Rattle.shards.specs.declared.short_blocks.ShortBlocks.{ShortBlocks}
use Rattle.shards.specs.ShortBlocks.{start_of, end_of, set_at, ArePacked, AreShifted, IsSetPut}

-- ---- pieces of a list in which words were replaced

-- a piece before them
front_piece : (n a s : ℕ) (ws rest : List ℕ) → a + n ≤ s → s ≤ length ws → take n (drop a (take s ws ++ rest)) ≡ take n (drop a (take s ws))
front_piece n a s ws rest before inside =
    let long = length-take-le s ws inside in
    ap (take n) (drop-append-le a (take s ws) rest (omega (arith, long)))
    ∙ take-append-le n (drop a (take s ws)) rest (omega (arith, long, length-drop a (take s ws)))

same_front : (n a s : ℕ) (ws rest : List ℕ) → a + n ≤ s → s ≤ length ws → take n (drop a (take s ws ++ rest)) ≡ take n (drop a ws)
same_front n a s ws rest before inside =
    front_piece n a s ws rest before inside
    ∙ sym (front_piece n a s ws (drop s ws) before inside)
    ∙ ap (λ l. take n (drop a l)) (take-append-drop s ws)

-- the words themselves
same_middle : (s : ℕ) (ws w rest : List ℕ) → s ≤ length ws → take (length w) (drop s (take s ws ++ (w ++ rest))) ≡ w
same_middle s ws w rest inside =
    ap (take (length w)) (drop_at (take s ws) (w ++ rest) s (length-take-le s ws inside))
    ∙ take_at w rest (length w) refl

-- what comes after them
same_rest : (s e x : ℕ) (ws w : List ℕ) → s ≤ length ws → drop (s + (length w + x)) (take s ws ++ (w ++ drop e ws)) ≡ drop (e + x) ws
same_rest s e x ws w inside =
    sym (drop-drop (length w + x) s (take s ws ++ (w ++ drop e ws)))
    ∙ ap (drop (length w + x)) (drop_at (take s ws) (w ++ drop e ws) s (length-take-le s ws inside))
    ∙ sym (drop-drop x (length w) (w ++ drop e ws))
    ∙ ap (drop x) (drop_at w (drop e ws) (length w) refl)
    ∙ drop-drop x e ws

length_spliced : (s e : ℕ) (ws w : List ℕ) → s ≤ e → e ≤ length ws → length (take s ws ++ (w ++ drop e ws)) + (e - s) ≡ length ws + length w
length_spliced s e ws w order inside =
    omega (arith, length-append (take s ws) (w ++ drop e ws), length-append w (drop e ws), length-take-le s ws (omega arith), length-drop e ws)

-- ---- where packed lists begin and end

-- the ends ascend
ends_rise : (b : ShortBlocks) (j i d : ℕ) → ArePacked b → i ≡ j + d → i < length b.ends.items → end_of b j ≤ end_of b i
ends_rise b j i zero packed is h = (let same : j ≡ i = omega (arith, is) in subst (λ m. end_of b j ≤ end_of b m) same (omega arith))
ends_rise b j zero (suc d) packed is h = absurd (omega (arith, is))
ends_rise b j (suc i) (suc d) packed is h =
    let before : end_of b j ≤ end_of b i = ends_rise b j i d packed (omega (arith, is)) (omega arith) in
    let up : end_of b i ≤ end_of b (suc i) = packed.ascending (suc i) h in
    omega (arith, before, up)

end_before : (b : ShortBlocks) (j k : ℕ) → ArePacked b → j < k → k < length b.ends.items → end_of b j ≤ start_of b k
end_before b j zero packed lt h = absurd (omega arith)
end_before b j (suc k) packed lt h = ends_rise b j k (k - j) packed (omega arith) (omega arith)

start_behind_end : (b : ShortBlocks) (k i : ℕ) → ArePacked b → k < i → i ≤ length b.ends.items → end_of b k ≤ start_of b i
start_behind_end b k zero packed lt h = absurd (omega arith)
start_behind_end b k (suc i) packed lt h = ends_rise b k i (i - k) packed (omega arith) (omega arith)

-- lists of few words have few in all
few_before : (b : ShortBlocks) (k : ℕ) → ((i : ℕ) → i < length b.ends.items → end_of b i ≤ length b.words.items) → ((i : ℕ) → i < length b.ends.items → length (set_at b i) ≤ 6) → k ≤ length b.ends.items → start_of b k ≤ 6 * k
few_before b zero within short h = omega arith
few_before b (suc k) within short h =
    let before = few_before b k within short (omega arith) in
    let inside = within k (omega arith) in
    let few = short k (omega arith) in
    let s = start_of b k in
    let e = end_of b k in
    let long : length (set_at b k) ≡ e - s = length-take-le (e - s) (drop s b.words.items) (omega (arith, inside, length-drop s b.words.items)) in
    let next : e ≤ 6 * suc k = omega (arith, before, few, long) in
    next

-- ---- the lists after one was put in place of another

pub record IsSpliced (old new : ShortBlocks) (k : ℕ) (w : List ℕ) : Type 0 where
  pub words : new.words.items ≡ take (start_of old k) old.words.items ++ (w ++ drop (end_of old k) old.words.items)
  pub ends : AreShifted k (end_of old k - start_of old k) (length w) old.ends.items new.ends.items

start_front : (old new : ShortBlocks) (k i : ℕ) (w : List ℕ) → IsSpliced old new k w → i ≤ k → start_of new i ≡ start_of old i
start_front old new k zero w is h = refl
start_front old new k (suc i) w is h = is.ends.before i (omega arith)

start_behind : (old new : ShortBlocks) (k i : ℕ) (w : List ℕ) → IsSpliced old new k w → k < i → i ≤ length old.ends.items → start_of new i + (end_of old k - start_of old k) ≡ start_of old i + length w
start_behind old new k zero w is lt h = absurd (omega arith)
start_behind old new k (suc i) w is lt h = is.ends.after i (omega arith) (omega arith)

-- the list itself
own_spliced : (old new : ShortBlocks) (k : ℕ) (w : List ℕ) → ArePacked old → k < length old.ends.items → IsSpliced old new k w → (end_of new k ≡ start_of old k + length w) × (set_at new k ≡ w)
own_spliced old new k w packed h is =
    let s = start_of old k in
    let e = end_of old k in
    let up : s ≤ e = packed.ascending k h in
    let inside : e ≤ length old.words.items = packed.within k h in
    let start : start_of new k ≡ s = start_front old new k k w is (omega arith) in
    let shifted : end_of new k + (e - s) ≡ e + length w = is.ends.after k (omega arith) h in
    let end : end_of new k ≡ s + length w = omega (arith, shifted, up) in
    let many : (s + length w) - s ≡ length w = omega arith in (
      end,
      ap₂ (λ a b. take (b - a) (drop a new.words.items)) start end
          ∙ ap (λ n. take n (drop s new.words.items)) many
          ∙ ap (λ l. take (length w) (drop s l)) is.words
          ∙ same_middle s old.words.items w (drop e old.words.items) (omega (arith, up, inside)),
    )

-- one before it
front_spliced : (old new : ShortBlocks) (k j : ℕ) (w : List ℕ) → ArePacked old → k < length old.ends.items → IsSpliced old new k w → j < k → (end_of new j ≡ end_of old j) × (set_at new j ≡ set_at old j)
front_spliced old new k j w packed h is lt =
    let s = start_of old k in
    let a = start_of old j in
    let b = end_of old j in
    let up : a ≤ b = packed.ascending j (omega arith) in
    let before : b ≤ s = end_before old j k packed lt h in
    let own : s ≤ end_of old k = packed.ascending k h in
    let inside : end_of old k ≤ length old.words.items = packed.within k h in
    let start : start_of new j ≡ a = start_front old new k j w is (omega arith) in
    let end : end_of new j ≡ b = is.ends.before j lt in (
      end,
      ap₂ (λ x y. take (y - x) (drop x new.words.items)) start end
          ∙ ap (λ l. take (b - a) (drop a l)) is.words
          ∙ same_front (b - a) a s old.words.items (w ++ drop (end_of old k) old.words.items) (omega (arith, up, before)) (omega (arith, own, inside)),
    )

-- one after it
rest_spliced : (old new : ShortBlocks) (k j : ℕ) (w : List ℕ) → ArePacked old → k < length old.ends.items → IsSpliced old new k w → k < j → j < length old.ends.items → set_at new j ≡ set_at old j
rest_spliced old new k j w packed h is lt inside =
    let s = start_of old k in
    let e = end_of old k in
    let a = start_of old j in
    let b = end_of old j in
    let x = a - e in
    let own : s ≤ e = packed.ascending k h in
    let up : a ≤ b = packed.ascending j inside in
    let behind : e ≤ a = start_behind_end old k j packed lt (omega arith) in
    let within : e ≤ length old.words.items = packed.within k h in
    let start : start_of new j + (e - s) ≡ a + length w = start_behind old new k j w is lt (omega arith) in
    let end : end_of new j + (e - s) ≡ b + length w = is.ends.after j (omega arith) inside in
    let at : start_of new j ≡ s + (length w + x) = omega (arith, start, own, behind) in
    let many : end_of new j - start_of new j ≡ b - a = omega (arith, start, end, up) in
    let back : e + x ≡ a = omega (arith, behind) in
    ap (λ n. take n (drop (start_of new j) new.words.items)) many
    ∙ ap (λ n. take (b - a) (drop n new.words.items)) at
    ∙ ap (λ l. take (b - a) (drop (s + (length w + x)) l)) is.words
    ∙ ap (take (b - a)) (same_rest s e x old.words.items w (omega (arith, own, within)))
    ∙ ap (λ n. take (b - a) (drop n old.words.items)) back

pub set_put : (old new : ShortBlocks) (k : ℕ) (w : List ℕ) → ArePacked old → k < length old.ends.items → IsSet w → length w ≤ 6 → IsSpliced old new k w → IsSetPut old new k w
set_put old new k w packed h set short is =
    let s = start_of old k in
    let e = end_of old k in
    let m = length old.ends.items in
    let own : s ≤ e = packed.ascending k h in
    let inside : e ≤ length old.words.items = packed.within k h in
    let count : length new.ends.items ≡ m = is.ends.count in
    let long : length new.words.items + (e - s) ≡ length old.words.items + length w = ap (λ l. length l + (e - s)) is.words ∙ length_spliced s e old.words.items w own inside in
    let mine = own_spliced old new k w packed h is in
    let whole : start_of new m + (e - s) ≡ length new.words.items + (e - s) = start_behind old new k m w is h (omega arith) ∙ ap (λ n. n + length w) packed.whole ∙ sym long in
    let within : (j : ℕ) → j < length new.ends.items → end_of new j ≤ length new.words.items = λ j lt. elim (cases_lt j k) [
      | inl before ↦ (let is_end = (front_spliced old new k j w packed h is before).0 in let low = end_before old j k packed before h in omega (arith, is_end, low, own, inside, long))
      | inr ge ↦ (let end : end_of new j + (e - s) ≡ end_of old j + length w = is.ends.after j ge (omega (arith, count)) in let low = packed.within j (omega (arith, count)) in omega (arith, end, low, long))
    ] in
    let few_words : (j : ℕ) → j < length new.ends.items → (IsSet (set_at new j)) × (length (set_at new j) ≤ 6) = λ j lt. elim (cases_lt j k) [
      | inl before ↦ (let same = sym (front_spliced old new k j w packed h is before).1 in (subst IsSet same (packed.sets j (omega arith)), subst (λ l. length l ≤ 6) same (packed.short j (omega arith))))
      | inr ge ↦ elim (cases_lt k j) [
        | inl behind ↦ (let same = sym (rest_spliced old new k j w packed h is behind (omega (arith, count))) in (subst IsSet same (packed.sets j (omega (arith, count))), subst (λ l. length l ≤ 6) same (packed.short j (omega (arith, count)))))
        | inr le ↦ (let at : k ≡ j = omega arith in subst (λ i. (IsSet (set_at new i)) × (length (set_at new i) ≤ 6)) at (subst IsSet (sym mine.1) set, subst (λ l. length l ≤ 6) (sym mine.1) short))
      ]
    ] in
    let ending : start_of new (length new.ends.items) ≡ length new.words.items = ap (start_of new) count ∙ omega (arith, whole) in
    record {
      packed = record {
        ascending = λ j lt. elim (cases_lt j k) [
          | inl before ↦ (let up = packed.ascending j (omega arith) in omega (arith, up, start_front old new k j w is (omega arith), (front_spliced old new k j w packed h is before).0))
          | inr ge ↦ elim (cases_lt k j) [
            | inl behind ↦ (
                let up = packed.ascending j (omega (arith, count)) in
                let start = start_behind old new k j w is behind (omega (arith, count)) in
                let end : end_of new j + (e - s) ≡ end_of old j + length w = is.ends.after j ge (omega (arith, count)) in
                omega (arith, up, start, end))
            | inr le ↦ (let at : k ≡ j = omega arith in subst (λ i. start_of new i ≤ end_of new i) at (omega (arith, start_front old new k k w is (omega arith), mine.0)))
          ]
        ];
        within = within;
        sets = λ j lt. (few_words j lt).0;
        short = λ j lt. (few_words j lt).1;
        whole = ending;
        few = (let few = few_before new (length new.ends.items) within (λ j lt. (few_words j lt).1) (omega arith) in omega (arith, few, ending));
      };
      count = count;
      own = mine.1;
      others = λ j other lt. elim (cases_lt j k) [
        | inl before ↦ (front_spliced old new k j w packed h is before).1
        | inr ge ↦ rest_spliced old new k j w packed h is (elim (cases_lt k j) [ inl behind ↦ behind | inr le ↦ absurd (other (omega arith)) ]) lt
      ];
    }

-- ---- what a list is replaced by, as its words and its end tell

pub set_length : (b : ShortBlocks) (k : ℕ) → ArePacked b → k < length b.ends.items → length (set_at b k) ≡ end_of b k - start_of b k
set_length b k packed h =
    let inside = packed.within k h in
    length-take-le (end_of b k - start_of b k) (drop (start_of b k) b.words.items) (omega (arith, inside, length-drop (start_of b k) b.words.items))

pub gone_fits : (b : ShortBlocks) (k i gone : ℕ) → ArePacked b → k ≤ i → i < length b.ends.items → gone ≡ length (set_at b k) → gone ≤ end_of b i
gone_fits b k i gone packed low high is =
    let up : end_of b k ≤ end_of b i = ends_rise b k i (i - k) packed (omega arith) high in
    omega (arith, up, is, set_length b k packed (omega arith))

pub come_fits : (b : ShortBlocks) (i come : ℕ) → ArePacked b → length b.ends.items ≤ 64 → i < length b.ends.items → come ≤ 6 → end_of b i + come < 65536
come_fits b i come packed most h few =
    let inside = packed.within i h in
    let all = packed.few in
    omega (arith, inside, all)

pub set_replaced : (old new : ShortBlocks) (k gone end : ℕ) (w : List ℕ) → ArePacked old → k < length old.ends.items → IsSet w → length w ≤ 6 → gone ≡ length (set_at old k) → end ≡ end_of old k → new.words.items ≡ take (end - gone) old.words.items ++ (w ++ drop end old.words.items) → AreShifted k gone (length w) old.ends.items new.ends.items → IsSetPut old new k w
set_replaced old new k gone end w packed h set short many at words ends =
    let up : start_of old k ≤ end_of old k = packed.ascending k h in
    let long : gone ≡ end_of old k - start_of old k = many ∙ set_length old k packed h in
    let start : end - gone ≡ start_of old k = omega (arith, long, at, up) in
    set_put old new k w packed h set short record {
      words = words ∙ ap₂ (λ a b. take a old.words.items ++ (w ++ drop b old.words.items)) start at;
      ends = subst (λ n. AreShifted k n (length w) old.ends.items new.ends.items) long ends;
    }
