-- The bytes of an image and the image, each from the other.
use Rattle.std.proofs.Common.{◌≡◌, ℕ, ◌+◌, ◌*◌, ◌/◌, ◌<◌, ◌≤◌, ◌^◌, true, false, List, [], ◌∷◌, ◌++◌, length, get_or, take, drop, refl, sym, ap, subst, ◌∙◌, inl, inr, eq-eqb, arith}
use Rattle.std.specs.Prelude.{nat_eq}
use Rattle.std.specs.List.{starts_with}
use Rattle.std.specs.Int.{w16, to_le_bytes, from_le_bytes}
use Rattle.std.proofs.lemmas.Bool.{cases_Bool, cases_lt, cases_eq, cond-true, cond-false, ne_eqb}
use Rattle.std.proofs.lemmas.Bool.Decides.{Decides-eqb}
use Rattle.std.proofs.lemmas.List.{get_or-drop, get_or-take, get_or_past, length-take, length-take-le, length-drop, length-append, take-append-drop, take_all, take_at, drop_at, drop_all, drop-drop, drop_more}
use Rattle.std.proofs.lemmas.Nat.{le_bytes_2, from_le_bytes-to_le_bytes_2}
use Rattle.std.proofs.lemmas.Slice.Eq.{slice_eq-Decides}
use Rattle.bpf_image.specs.Program.{Program, units, IsImage}
use Rattle.bpf_image.specs.declared.image_error.ImageError.{ImageError}
use Rattle.bpf_image.specs.declared.image_error.ImageError.TheVariants.{Magic, Length, RecordLength, CodeLength, OutOfMemory, TableLength}
use Rattle.bpf_image.specs.Format.{magic, table_magic, plain_bytes, bytes_with_table, image_bytes, has_table, front_length, record_field, units_field, table_field, HasMagic, IsWhole, IsFault}

-- a program of these parts
abbrev pub program : List ℕ → ℕ → List ℕ → Program
program code n table = record { code = code; record_length = n; table = table }

-- what bytes spell, where they spell a program
abbrev pub spelled : List ℕ → Program
spelled bytes = program (take (8 * units_field bytes) (drop (front_length bytes) bytes)) (record_field bytes) (drop (front_length bytes + 8 * units_field bytes) bytes)

no_items : (xs : List ℕ) → length xs ≡ 0 → xs ≡ []
no_items [] none = refl
no_items (x ∷ xs) none = absurd (omega (arith, none))

-- ---- from an image

plain_image : (p : Program) → length p.table ≡ 0 → image_bytes p ≡ plain_bytes p
plain_image p none = cond-true _ _ _ (eq-eqb _ _ none)

table_image : (p : Program) → 1 ≤ length p.table → image_bytes p ≡ bytes_with_table p
table_image p some = cond-false _ _ _ (ne_eqb (length p.table) 0 (λ none. omega (arith, none, some)))

record_fits : (p : Program) → IsImage p → p.record_length < 2 ^ 16
record_fits p image = omega (arith, image.record_length.1)

units_fit : (p : Program) → IsImage p → units p < 2 ^ 16
units_fit p image = omega (arith, image.code.most)

table_fits : (p : Program) → IsImage p → length p.table < 2 ^ 16
table_fits p image = omega (arith, image.table)

-- without a table
plain_record : (p : Program) → IsImage p → record_field (plain_bytes p) ≡ p.record_length
plain_record p image = from_le_bytes-to_le_bytes_2 p.record_length (record_fits p image)

plain_units : (p : Program) → IsImage p → units_field (plain_bytes p) ≡ units p
plain_units p image = from_le_bytes-to_le_bytes_2 (units p) (units_fit p image)

plain_whole : (p : Program) → IsImage p → IsWhole (plain_bytes p)
plain_whole p image =
    let record_same = plain_record p image in
    let units_same = plain_units p image in
    let long : length (plain_bytes p) ≡ 8 + length p.code = omega arith in (
      ((inl refl, omega (arith, long)), (omega (arith, record_same, image.record_length.0), omega (arith, record_same, image.record_length.1)), (omega (arith, units_same, image.code.some), omega (arith, units_same, image.code.most)), inl refl),
      omega (arith, long, units_same, image.code.whole),
    )

plain_again : (p : Program) → IsImage p → length p.table ≡ 0 → spelled (plain_bytes p) ≡ p
plain_again p image none =
    let bytes = plain_bytes p in
    let size : 8 * units_field (plain_bytes p) ≡ length p.code = omega (arith, plain_units p image, image.code.whole) in
    let code : take (8 * units_field (plain_bytes p)) p.code ≡ p.code = take_all (8 * units_field (plain_bytes p)) p.code (omega (arith, size)) in
    let long : length (plain_bytes p) ≡ 8 + length p.code = omega arith in
    let table : drop (8 + 8 * units_field (plain_bytes p)) (plain_bytes p) ≡ p.table =
    drop_all (8 + 8 * units_field (plain_bytes p)) (plain_bytes p) (omega (arith, long, size)) ∙ sym (no_items p.table none) in
    ap (λ (c : List ℕ). program c (record_field bytes) (drop (8 + 8 * units_field bytes) bytes)) code
    ∙ ap (λ (n : ℕ). program p.code n (drop (8 + 8 * units_field bytes) bytes)) (plain_record p image)
    ∙ ap (λ (t : List ℕ). program p.code p.record_length t) table

-- with a table
table_record : (p : Program) → IsImage p → record_field (bytes_with_table p) ≡ p.record_length
table_record p image = from_le_bytes-to_le_bytes_2 p.record_length (record_fits p image)

table_units : (p : Program) → IsImage p → units_field (bytes_with_table p) ≡ units p
table_units p image = from_le_bytes-to_le_bytes_2 (units p) (units_fit p image)

table_length : (p : Program) → IsImage p → table_field (bytes_with_table p) ≡ length p.table
table_length p image = from_le_bytes-to_le_bytes_2 (length p.table) (table_fits p image)

table_whole : (p : Program) → IsImage p → 1 ≤ length p.table → IsWhole (bytes_with_table p)
table_whole p image some =
    let record_same = table_record p image in
    let units_same = table_units p image in
    let table_same = table_length p image in
    let long : length (bytes_with_table p) ≡ 10 + (length p.code + length p.table) = omega (arith, length-append p.code p.table) in (
      ((inr refl, omega (arith, long)), (omega (arith, record_same, image.record_length.0), omega (arith, record_same, image.record_length.1)), (omega (arith, units_same, image.code.some), omega (arith, units_same, image.code.most)), inr (omega (arith, table_same, some), omega (arith, table_same, image.table))),
      omega (arith, long, units_same, table_same, image.code.whole),
    )

table_again : (p : Program) → IsImage p → spelled (bytes_with_table p) ≡ p
table_again p image =
    let bytes = bytes_with_table p in
    let size : length p.code ≡ 8 * units_field (bytes_with_table p) = omega (arith, table_units p image, image.code.whole) in
    let code : take (8 * units_field (bytes_with_table p)) (p.code ++ p.table) ≡ p.code = take_at p.code p.table (8 * units_field (bytes_with_table p)) size in
    let table : drop (10 + 8 * units_field (bytes_with_table p)) (bytes_with_table p) ≡ p.table =
    sym (drop-drop (8 * units_field (bytes_with_table p)) 10 (bytes_with_table p)) ∙ drop_at p.code p.table (8 * units_field (bytes_with_table p)) size in
    ap (λ (c : List ℕ). program c (record_field bytes) (drop (10 + 8 * units_field bytes) bytes)) code
    ∙ ap (λ (n : ℕ). program p.code n (drop (10 + 8 * units_field bytes) bytes)) (table_record p image)
    ∙ ap (λ (t : List ℕ). program p.code p.record_length t) table

-- with or without
program_again : (p : Program) → IsImage p → spelled (image_bytes p) ≡ p
program_again p image =
    elim (cases_eq (length p.table) 0) [
      | inl none ↦ ap spelled (plain_image p none) ∙ plain_again p image none
      | inr some ↦ ap spelled (table_image p (omega (arith, some))) ∙ table_again p image
    ]

pub image_whole : (p : Program) → IsImage p → IsWhole (image_bytes p)
image_whole p image =
    elim (cases_eq (length p.table) 0) [
      | inl none ↦ subst IsWhole (sym (plain_image p none)) (plain_whole p image)
      | inr some ↦ subst IsWhole (sym (table_image p (omega (arith, some)))) (table_whole p image (omega (arith, some)))
    ]

pub images_load : (p : Program) → IsImage p → (error : ImageError) → IsFault (image_bytes p) error → error ≡ OutOfMemory
images_load p image Magic fault = absurd (fault (image_whole p image).0.0.0)
images_load p image Length (inl (has, short)) =
    let long = (image_whole p image).0.0.1 in
    absurd (omega (arith, long, short))
images_load p image Length (inr (counts, other)) = absurd (other (image_whole p image).1)
images_load p image RecordLength (header, none) = absurd (none (image_whole p image).0.1)
images_load p image CodeLength (header, record_length, none) = absurd (none (image_whole p image).0.2)
images_load p image OutOfMemory fault = refl
images_load p image TableLength (header, record_length, count, none) = absurd (none (image_whole p image).0.3)

pub one_image : (p q : Program) → IsImage p → IsImage q → image_bytes p ≡ image_bytes q → p ≡ q
one_image p q left right same = sym (program_again p left) ∙ ap spelled same ∙ program_again q right

-- ---- from its bytes

abbrev pub AreBytes : List ℕ → Type 0
AreBytes bytes = (i : ℕ) → get_or bytes i 0 < 256

AreBytes-field : (n : ℕ) (bytes : List ℕ) → AreBytes bytes → AreBytes (take 2 (drop n bytes))
AreBytes-field n bytes all i =
    elim (cases_lt i 2) [
      | inl inside ↦ rw (get_or-take 2 (drop n bytes) i 0 inside, get_or-drop) (all (n + i))
      | inr past ↦ rw (get_or_past (take 2 (drop n bytes)) i 0 (omega (arith, length-take 2 (drop n bytes)))) (omega arith)
    ]

-- a field's bytes from the number that they spell
field_again : (n : ℕ) (bytes : List ℕ) → AreBytes bytes → n + 2 ≤ length bytes → (x : ℕ) → x ≡ from_le_bytes w16 (take 2 (drop n bytes)) → to_le_bytes w16 x ≡ take 2 (drop n bytes)
field_again n bytes all inside x spelled =
    le_bytes_2 (take 2 (drop n bytes)) x (omega (arith, length-take 2 (drop n bytes), length-drop n bytes)) (AreBytes-field n bytes all) spelled

two_dropped : (n : ℕ) (bytes : List ℕ) → n + 2 ≤ length bytes → take 2 (drop n bytes) ++ drop (n + 2) bytes ≡ drop n bytes
two_dropped n bytes inside =
    let one : drop n bytes ≡ get_or bytes n 0 ∷ drop (n + 1) bytes = drop_more bytes n 0 (omega arith) in
    let two : drop (n + 1) bytes ≡ get_or bytes (n + 1) 0 ∷ drop ((n + 1) + 1) bytes = drop_more bytes (n + 1) 0 (omega arith) in
    let place : (n + 1) + 1 ≡ n + 2 = omega arith in
    let both : drop n bytes ≡ get_or bytes n 0 ∷ get_or bytes (n + 1) 0 ∷ drop (n + 2) bytes = one ∙ ap (λ (rest : List ℕ). get_or bytes n 0 ∷ rest) (two ∙ ap (λ (k : ℕ). get_or bytes (n + 1) 0 ∷ drop k bytes) place) in
    rw both refl

-- the bytes of a front without the length of a table
front_again : (bytes front : List ℕ) (u : ℕ) → AreBytes bytes → take 4 bytes ≡ front → 8 ≤ length bytes → u ≡ units_field bytes
    → front ++ (to_le_bytes w16 (record_field bytes) ++ (to_le_bytes w16 u ++ drop 8 bytes)) ≡ bytes
front_again bytes front u all has long count =
    let first : to_le_bytes w16 (record_field bytes) ≡ take 2 (drop 4 bytes) = field_again 4 bytes all (omega arith) (record_field bytes) refl in
    let second : to_le_bytes w16 u ≡ take 2 (drop 6 bytes) = field_again 6 bytes all (omega arith) u count in
    let last : take 2 (drop 6 bytes) ++ drop 8 bytes ≡ drop 6 bytes = two_dropped 6 bytes (omega arith) in
    let middle : take 2 (drop 4 bytes) ++ drop 6 bytes ≡ drop 4 bytes = two_dropped 4 bytes (omega arith) in
    ap (λ (begin : List ℕ). begin ++ (to_le_bytes w16 (record_field bytes) ++ (to_le_bytes w16 u ++ drop 8 bytes))) (sym has)
    ∙ ap (λ (field : List ℕ). take 4 bytes ++ (field ++ (to_le_bytes w16 u ++ drop 8 bytes))) first
    ∙ ap (λ (field : List ℕ). take 4 bytes ++ (take 2 (drop 4 bytes) ++ (field ++ drop 8 bytes))) second
    ∙ ap (λ (rest : List ℕ). take 4 bytes ++ (take 2 (drop 4 bytes) ++ rest)) last
    ∙ ap (λ (rest : List ℕ). take 4 bytes ++ rest) middle
    ∙ take-append-drop 4 bytes

pub table_magic_there : (bytes : List ℕ) → has_table bytes ≡ true → take 4 bytes ≡ table_magic
table_magic_there bytes test =
    sym ((slice_eq-Decides Decides-eqb table_magic (take 4 bytes) (starts_with nat_eq bytes table_magic) refl).0 test)

no_table_magic : (bytes : List ℕ) → has_table bytes ≡ false → HasMagic bytes → take 4 bytes ≡ magic
no_table_magic bytes test (inl has) = has
no_table_magic bytes test (inr other) =
    absurd (let has : has_table bytes ≡ true = (slice_eq-Decides Decides-eqb table_magic (take 4 bytes) (starts_with nat_eq bytes table_magic) refl).1 (sym other) in cc)

-- what is left of bytes without a table, and of those with one
plain_bytes_again : (bytes : List ℕ) → AreBytes bytes → HasMagic bytes → has_table bytes ≡ false → 8 ≤ length bytes → length bytes ≡ 8 + 8 * units_field bytes
    → image_bytes (program (take (8 * units_field bytes) (drop 8 bytes)) (record_field bytes) (drop (8 + 8 * units_field bytes) bytes)) ≡ bytes
plain_bytes_again bytes all has test long whole =
    let code : take (8 * units_field bytes) (drop 8 bytes) ≡ drop 8 bytes = take_all (8 * units_field bytes) (drop 8 bytes) (omega (arith, length-drop 8 bytes, whole)) in
    let none : drop (8 + 8 * units_field bytes) bytes ≡ [] = drop_all (8 + 8 * units_field bytes) bytes (omega (arith, whole)) in
    let counted : length (drop 8 bytes) / 8 ≡ units_field bytes = omega (arith, length-drop 8 bytes, whole) in
    ap (λ (c : List ℕ). image_bytes (program c (record_field bytes) (drop (8 + 8 * units_field bytes) bytes))) code
    ∙ ap (λ (t : List ℕ). image_bytes (program (drop 8 bytes) (record_field bytes) t)) none
    ∙ front_again bytes magic (length (drop 8 bytes) / 8) all (no_table_magic bytes test has) long counted

table_bytes_again : (bytes : List ℕ) → AreBytes bytes → has_table bytes ≡ true → 10 ≤ length bytes
    → 1 ≤ from_le_bytes w16 (take 2 (drop 8 bytes)) → length bytes ≡ 10 + 8 * units_field bytes + from_le_bytes w16 (take 2 (drop 8 bytes))
    → image_bytes (program (take (8 * units_field bytes) (drop 10 bytes)) (record_field bytes) (drop (10 + 8 * units_field bytes) bytes)) ≡ bytes
table_bytes_again bytes all test long some whole =
    let n = 8 * units_field bytes in
    let code = take (8 * units_field bytes) (drop 10 bytes) in
    let table = drop (10 + 8 * units_field bytes) bytes in
    let size : length (take (8 * units_field bytes) (drop 10 bytes)) ≡ 8 * units_field bytes = length-take-le (8 * units_field bytes) (drop 10 bytes) (omega (arith, length-drop 10 bytes, whole)) in
    let counted : length (take (8 * units_field bytes) (drop 10 bytes)) / 8 ≡ units_field bytes = omega (arith, size) in
    let left : length (drop (10 + 8 * units_field bytes) bytes) ≡ from_le_bytes w16 (take 2 (drop 8 bytes)) = omega (arith, length-drop (10 + 8 * units_field bytes) bytes, whole) in
    let joined : code ++ table ≡ drop 10 bytes =
    ap (λ (rest : List ℕ). code ++ rest) (sym (drop-drop (8 * units_field bytes) 10 bytes)) ∙ take-append-drop (8 * units_field bytes) (drop 10 bytes) in
    let field : to_le_bytes w16 (length table) ≡ take 2 (drop 8 bytes) = field_again 8 bytes all (omega (arith, long)) (length table) left in
    let last : take 2 (drop 8 bytes) ++ drop 10 bytes ≡ drop 8 bytes = two_dropped 8 bytes (omega (arith, long)) in
    let front = λ (rest : List ℕ). table_magic ++ (to_le_bytes w16 (record_field bytes) ++ (to_le_bytes w16 (length code / 8) ++ rest)) in
    table_image (program code (record_field bytes) table) (omega (arith, left, some))
    ∙ ap (λ (rest : List ℕ). front (to_le_bytes w16 (length table) ++ rest)) joined
    ∙ ap (λ (bytes_of : List ℕ). front (bytes_of ++ drop 10 bytes)) field
    ∙ ap front last
    ∙ front_again bytes table_magic (length code / 8) all (table_magic_there bytes test) (omega (arith, long)) counted

pub bytes_again : (bytes : List ℕ) → AreBytes bytes → IsWhole bytes → image_bytes (spelled bytes) ≡ bytes
bytes_again bytes all (((has, long), record_length, count, table), whole) =
    elim (cases_Bool (has_table bytes)) [
      | inr test ↦ rw test (plain_bytes_again bytes all has test (rw test at long) (let size = (rw test at whole) in omega (arith, size)))
      | inl test ↦ rw test (elim table [
        | inl none ↦ absurd (let both : true ≡ false = sym test ∙ none in cc)
        | inr is ↦ (let some = (rw test at is.0) in table_bytes_again bytes all test (rw test at long) some (rw test at whole))
      ])
    ]
