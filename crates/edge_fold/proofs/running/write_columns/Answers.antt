use Rattle.std.proofs.Common.{◌≡◌, ◌+◌, ◌*◌, ◌-◌, List, ℕ, length, map, ap, ◌∙◌, rules, arith}
use Rattle.std.specs.Borrow.{Bor}
use Rattle.std.proofs.lemmas.List.{length-map}
use Rattle.std.proofs.lemmas.Slice.{drop-put_mid}
use Rattle.bpf_runs.specs.declared.memory.TheConstants.{RECORD_ROOM}
use Rattle.edge_fold.proofs.EndBytes.{ends_long}
use Rattle.edge_fold.proofs.running.write_columns.Goals as goal

pub returns-clause-rest : goal.returns-clause-rest
returns-clause-rest c =
    let columns = map (λ (column : Bor (List ℕ)). column.now) c.args.columns.now in
    let count : length columns ≡ length c.args.columns.now = length-map c.args.columns.now (λ (column : Bor (List ℕ)). column.now) in
    let long : length c.write_ends.new.bytes ≡ 16 * length c.args.columns.now =
    ap length c.write_ends.ensures ∙ ends_long columns c.args.edge.source c.args.edge.target ∙ ap (λ n. 16 * n) count in
    drop-put_mid c.args.from (c.args.from + 16 * length c.args.columns.now - c.args.from) c.args.memory.now.bytes c.write_ends.new.bytes RECORD_ROOM
    (omega (arith, c.requires)) (search (rules, c.requires)) (omega (arith, long))
