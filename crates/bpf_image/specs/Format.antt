-- Images as bytes: which bytes spell an image, and why other bytes spell none.
use Rattle.std.specs.Prelude.{◌≡◌, ◌≢◌, ℕ, ◌+◌, ◌*◌, ◌<◌, ◌≤◌, ◌==◌, nat_eq, Bool, false, if◌then◌else◌, List, [], ◌∷◌, ◌++◌, length, take, drop, ◌⊎◌}
use Rattle.std.specs.List.{starts_with}
use Rattle.std.specs.Int.{w16, to_le_bytes, from_le_bytes}
use Rattle.bpf_isa.specs.declared.limits.TheConstants.{MOST_UNITS}
use Rattle.bpf_image.specs.declared.limits.TheConstants.{MOST_TABLE_LENGTH}
use Rattle.bpf_image.specs.Program.{Program, units, IsRecordLength, IsCodeLength, IsTableLength}
use Rattle.bpf_image.specs.declared.image_error.ImageError.{ImageError}
use Rattle.bpf_image.specs.declared.image_error.ImageError.TheVariants.{Magic, Length, RecordLength, CodeLength, OutOfMemory, TableLength}

-- the bytes that an image without a table begins with: BPE1
abbrev pub magic : List ℕ
magic = 0x42 ∷ 0x50 ∷ 0x45 ∷ 0x31 ∷ []

-- those that an image with a table begins with: BPE2
abbrev pub table_magic : List ℕ
table_magic = 0x42 ∷ 0x50 ∷ 0x45 ∷ 0x32 ∷ []

-- the magic bytes, the record length and the count of units in two bytes each, the lowest first, and
-- the code, with nothing after it
abbrev pub plain_bytes : Program → List ℕ
plain_bytes p = magic ++ (to_le_bytes w16 p.record_length ++ (to_le_bytes w16 (units p) ++ p.code))

-- with a table its length comes before the code, in two bytes too, and the table after it
abbrev pub bytes_with_table : Program → List ℕ
bytes_with_table p =
    table_magic ++ (to_le_bytes w16 p.record_length ++ (to_le_bytes w16 (units p) ++ (to_le_bytes w16 (length p.table) ++ (p.code ++ p.table))))

abbrev pub image_bytes : Program → List ℕ
image_bytes p = if length p.table == 0 then plain_bytes p else bytes_with_table p

-- whether bytes begin as those of an image with a table
abbrev pub has_table : List ℕ → Bool
has_table bytes = starts_with nat_eq bytes table_magic

-- where the code begins in them
abbrev pub front_length : List ℕ → ℕ
front_length bytes = if has_table bytes then 10 else 8

-- the numbers in bytes that begin as an image's
abbrev pub record_field : List ℕ → ℕ
record_field bytes = from_le_bytes w16 (take 2 (drop 4 bytes))

abbrev pub units_field : List ℕ → ℕ
units_field bytes = from_le_bytes w16 (take 2 (drop 6 bytes))

abbrev pub table_field : List ℕ → ℕ
table_field bytes = if has_table bytes then from_le_bytes w16 (take 2 (drop 8 bytes)) else 0

abbrev pub IsUnitCount : ℕ → Type 0
IsUnitCount n = (1 ≤ n) × (n ≤ MOST_UNITS)

abbrev pub HasMagic : List ℕ → Type 0
HasMagic bytes = (take 4 bytes ≡ magic) ⊎ (take 4 bytes ≡ table_magic)

-- the bytes have all numbers
abbrev pub HasHeader : List ℕ → Type 0
HasHeader bytes = HasMagic bytes × (front_length bytes ≤ length bytes)

-- the length of the table is one, where there is a table
abbrev pub HasTableLength : List ℕ → Type 0
HasTableLength bytes = (has_table bytes ≡ false) ⊎ IsTableLength (table_field bytes)

-- and the numbers are those of an image
abbrev pub HasCounts : List ℕ → Type 0
HasCounts bytes =
    HasHeader bytes × IsRecordLength (record_field bytes) × IsUnitCount (units_field bytes) × HasTableLength bytes

-- how many bytes there are where it is as much as they say
abbrev pub whole_length : List ℕ → ℕ
whole_length bytes = front_length bytes + 8 * units_field bytes + table_field bytes

abbrev pub IsWhole : List ℕ → Type 0
IsWhole bytes = HasCounts bytes × (length bytes ≡ whole_length bytes)

-- why there is no image of some bytes; only those of an image want memory
abbrev pub IsFault : List ℕ → ImageError → Type 0
IsFault bytes Magic = ¬ HasMagic bytes
IsFault bytes Length =
    (HasMagic bytes × (length bytes < front_length bytes)) ⊎ (HasCounts bytes × (length bytes ≢ whole_length bytes))
IsFault bytes RecordLength = HasHeader bytes × ¬ IsRecordLength (record_field bytes)
IsFault bytes CodeLength =
    HasHeader bytes × IsRecordLength (record_field bytes) × ¬ IsUnitCount (units_field bytes)
IsFault bytes OutOfMemory = IsWhole bytes
IsFault bytes TableLength =
    HasHeader bytes × IsRecordLength (record_field bytes) × IsUnitCount (units_field bytes) × ¬ HasTableLength bytes

-- why there is no image of a record, code and a table of these lengths: the first that no image has. Without a table its length is 0
abbrev pub IsWrongLength : (record_length code_length table_length : ℕ) → ImageError → Type 0
IsWrongLength n m t RecordLength = ¬ IsRecordLength n
IsWrongLength n m t CodeLength = IsRecordLength n × ¬ IsCodeLength m
IsWrongLength n m t TableLength = IsRecordLength n × IsCodeLength m × (MOST_TABLE_LENGTH < t)
IsWrongLength n m t Magic = ⊥
IsWrongLength n m t Length = ⊥
IsWrongLength n m t OutOfMemory = ⊥
