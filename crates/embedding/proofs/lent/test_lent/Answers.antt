use Rattle.std.proofs.Common.{◌≡◌, ℕ, ◌+◌, ◌*◌, ◌==◌, List, true, false, length, refl, sym, ap, ◌∙◌, arith}
use Rattle.std.specs.Borrow.{Bor}
use Rattle.std.proofs.lemmas.Bool.{eq-eqb, ne_eqb}
use Rattle.std.proofs.lemmas.List.{length-map}
use Rattle.past_model.specs.Past.{graph_of}
use Rattle.past_model.proofs.Pasts.{vertex_count-graph_of}
use Rattle.map_model.specs.declared.limits.TheConstants.{EDGE_BYTES, COLUMN_BYTES}
use Rattle.edge_fold.specs.Inputs.{are_columns}
use Rattle.embedding.specs.Lent.{lent_of}
use Rattle.embedding.proofs.lent.test_lent.Goals as goal

pub returns-then-not-columns_fit-clause-status : goal.returns-then-not-columns_fit-clause-status
returns-then-not-columns_fit-clause-status c =
    let columns = (lent_of c.args.lent.now).columns in
    let misfit : are_columns (graph_of c.args.version.now).vertex_count columns ≡ false =
    ap (λ (n : ℕ). are_columns n columns) (vertex_count-graph_of c.args.version.now ∙ sym c.vertex_count.ensures.value) ∙ sym c.columns_fit.ensures.fits ∙ c.if-not-columns_fit.true in
    rw misfit refl

pub returns-then-length-from-clause-status : goal.returns-then-length-from-clause-status
returns-then-length-from-clause-status c =
    let inputs = lent_of c.args.lent.now in
    let fit : are_columns (graph_of c.args.version.now).vertex_count inputs.columns ≡ true =
    ap (λ (n : ℕ). are_columns n inputs.columns) (vertex_count-graph_of c.args.version.now ∙ sym c.vertex_count.ensures.value) ∙ sym c.columns_fit.ensures.fits ∙ c.if-not-columns_fit.false in
    let count : length inputs.columns ≡ length c.args.lent.now.columns.now = length-map c.args.lent.now.columns.now (λ (column : Bor (List ℕ)). column.now) in
    let other : (length inputs.argument + EDGE_BYTES + COLUMN_BYTES * length inputs.columns == c.args.program.now.record_length) ≡ false =
    ne_eqb (length inputs.argument + EDGE_BYTES + COLUMN_BYTES * length inputs.columns) c.args.program.now.record_length
    (λ same. omega (arith, same, count, c.if-length-from.true, c.from.ensures, c.record_length.ensures)) in
    rw (fit, other) refl

pub returns-clause-status : goal.returns-clause-status
returns-clause-status c =
    let inputs = lent_of c.args.lent.now in
    let fit : are_columns (graph_of c.args.version.now).vertex_count inputs.columns ≡ true =
    ap (λ (n : ℕ). are_columns n inputs.columns) (vertex_count-graph_of c.args.version.now ∙ sym c.vertex_count.ensures.value) ∙ sym c.columns_fit.ensures.fits ∙ c.if-not-columns_fit.false in
    let count : length inputs.columns ≡ length c.args.lent.now.columns.now = length-map c.args.lent.now.columns.now (λ (column : Bor (List ℕ)). column.now) in
    let same : (length inputs.argument + EDGE_BYTES + COLUMN_BYTES * length inputs.columns == c.args.program.now.record_length) ≡ true =
    eq-eqb (length inputs.argument + EDGE_BYTES + COLUMN_BYTES * length inputs.columns) c.args.program.now.record_length
    (omega (arith, count, c.if-length-from.false, c.from.ensures, c.record_length.ensures)) in
    rw (fit, same) refl
