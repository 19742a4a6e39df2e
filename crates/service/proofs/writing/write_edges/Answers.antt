use Rattle.std.proofs.Common.{◌≡◌, List, ◌++◌, ℕ, sym, ap, ◌∙◌, append_assoc}
use Rattle.std.specs.List.{flat_map}
use Rattle.script_model.specs.Texts.{edge_text}
use Rattle.service.proofs.KnownLemmas.{appends_more}
use Rattle.service.proofs.RoundLemmas.{is_that, takes_more}
use Rattle.service.proofs.writing.write_edges.Goals as goal

pub returns-in_err-write_text-clause-err : goal.returns-in_err-write_text-clause-err
returns-in_err-write_text-clause-err g c =
    let inv = c.loop-lines.invariant in
    let text = c.loop-lines.text.items in
    let left = flat_map edge_text c.loop-lines.lines in
    let same = is_that c.from_residual.result c.in_err-write_text.field-0.0 c.from_residual.ensures.1 in
    rw same (takes_more (g.O.Output.contents c.args.output.now) (g.O.Output.contents c.loop-lines.output) (g.O.Output.contents c.write_text.new.output) inv.0 text (c.args.text.now.items ++ flat_map edge_text c.args.listing.now) left inv.1 c.in_err-write_text.ensures.err (inv.2 ∙ sym (append_assoc inv.0 text left)))

pub returns-in_err-put_block-clause-err : goal.returns-in_err-put_block-clause-err
returns-in_err-put_block-clause-err g c =
    let inv = c.loop-lines.invariant in
    let text = c.loop-lines.text.items in
    let left = flat_map edge_text c.loop-lines.lines in
    let same = is_that c.from_residual-in_err-put_block.result _ c.from_residual-in_err-put_block.ensures.1 in
    rw same (inv.0 ++ text, left, inv.2 ∙ sym (append_assoc inv.0 text left), appends_more (g.O.Output.contents c.args.output.now) (g.O.Output.contents c.loop-lines.output) (g.O.Output.contents c.write_text.new.output) inv.0 text inv.1 c.in_ok-write_text.ensures.ok)

pub loop-lines-preserved : goal.loop-lines-preserved
loop-lines-preserved g c =
    let inv = c.loop-lines.invariant in
    let text = c.loop-lines.text.items in
    let left = flat_map edge_text c.loop-lines.lines in
    let empty : left ≡ c.write_text.new.text.items ++ left = sym (ap (λ (t : List ℕ). t ++ left) c.in_ok-write_text.ensures.empty) in
    let next = empty ∙ sym c.in_ok-put_block.ensures.text in (
      inv.0 ++ text,
      appends_more (g.O.Output.contents c.args.output.now) (g.O.Output.contents c.loop-lines.output) (g.O.Output.contents c.write_text.new.output) inv.0 text inv.1 c.in_ok-write_text.ensures.ok,
      inv.2 ∙ sym (append_assoc inv.0 text left) ∙ ap (λ (t : List ℕ). (inv.0 ++ text) ++ t) next,
      c.in_ok-write_text.ensures.writes ∙ inv.3,
    )
