use Rattle.std.proofs.Common.{sym, ap, ◌∙◌}
use Rattle.past_model.specs.Past.{Past}
use Rattle.past_model.proofs.Pasts.{vertex_count-graph_of}
use Rattle.session.proofs.lending.write_numbers.Goals as goal

pub mapped_numbers-requires-clause-long : goal.mapped_numbers-requires-clause-long
mapped_numbers-requires-clause-long g c =
    λ κs m. c.in_default.ensures.long ∙ ap (λ (p : Past). p.vertex_count) (sym c.version-version.ensures) ∙ sym (vertex_count-graph_of c.version-version.result.now)
