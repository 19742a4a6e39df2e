use Rattle.std.proofs.Common.{◌≡◌, ℕ, ◌+◌, ◌-◌, ◌*◌, List, take, drop, ap, ap₂, ◌∙◌, arith}
use Rattle.bpf_image.specs.Program.{table_bytes}
use Rattle.bpf_image.specs.Format.{image_bytes, front_length, units_field, record_field}
use Rattle.bpf_image.proofs.FormatLaws.{program, bytes_again}
use Rattle.bpf_image.proofs.image.image_of.Goals as goal

pub returns : goal.returns
returns c =
    let bytes = c.args.bytes.now in
    let start = c.code_start-start.result in
    let front : c.code_start-start.result ≡ front_length c.args.bytes.now = c.code_start-start.ensures.exact in
    let count : c.unit_count.result ≡ units_field c.args.bytes.now = c.unit_count.ensures.exact in
    let size : (c.code_start-start.result + 8 * c.unit_count.result) - c.code_start-start.result ≡ 8 * units_field c.args.bytes.now = omega (arith, count) in
    let end : c.code_start-start.result + 8 * c.unit_count.result ≡ front_length c.args.bytes.now + 8 * units_field c.args.bytes.now = omega (arith, count, front) in
    let code : c.in_ok-code.code.items ≡ take (8 * units_field c.args.bytes.now) (drop (front_length c.args.bytes.now) c.args.bytes.now) =
    c.in_ok-code.ensures.items_if_clones_equal (λ x y same. same) ∙ ap₂ (λ (n m : ℕ). take n (drop m c.args.bytes.now)) size front in
    let table : table_bytes c.in_ok-table.table ≡ drop (front_length c.args.bytes.now + 8 * units_field c.args.bytes.now) c.args.bytes.now =
    c.in_ok-table.ensures ∙ ap (λ (n : ℕ). drop n c.args.bytes.now) end in
    ap (λ (items : List ℕ). image_bytes (program items c.args.record_length (table_bytes c.in_ok-table.table))) code
    ∙ ap (λ (n : ℕ). image_bytes (program (take (8 * units_field bytes) (drop (front_length bytes) bytes)) n (table_bytes c.in_ok-table.table))) c.requires.record
    ∙ ap (λ (items : List ℕ). image_bytes (program (take (8 * units_field bytes) (drop (front_length bytes) bytes)) (record_field bytes) items)) table
    ∙ bytes_again bytes (λ i. (c.type_inv.bytes i).fits) c.requires.whole
