use Rattle.std.proofs.Common.{List, ℕ, take, sym, ap, ◌∙◌, ◌++◌}
use Rattle.edge_fold.specs.Inputs.{inputs_of, end_bytes}
use Rattle.edge_fold.proofs.EndBytes.{record_split}
use Rattle.edge_fold.proofs.running.prepare.Goals as goal

pub returns-clause-record : goal.returns-clause-record
returns-clause-record c =
    let m = c.args.mapped.now in
    let inputs = inputs_of m in
    let e = c.args.edge in
    ap (λ n. take n c.write_columns.new.memory.bytes) (sym m.fits)
    ∙ c.write_columns.ensures.record
    ∙ ap (λ (front : List ℕ). front ++ end_bytes inputs.columns e.source e.target) c.write_front.ensures.record
    ∙ sym (record_split e inputs)
