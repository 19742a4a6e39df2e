use Rattle.std.proofs.Common.{rules, ◌≡◌, Option, Some, sym, ap, ◌∙◌}
use Rattle.std.specs.Prelude.{option_map}
use Rattle.script_model.specs.State.{Script}
use Rattle.script.specs.declared.block.Block.{Block as BegunBlock}
use Rattle.script.specs.declared.block.Block.TheVariants as blocks
use Rattle.script.specs.Kept.{block_of, open_batch}
use Rattle.script.proofs.script.Script.has_batch.Goals as goal

pub returns-in-Some-Batch-clause-yes : goal.returns-in-Some-Batch-clause-yes
returns-in-Some-Batch-clause-yes c = λ _.
    let inside : c.self.inside.block ≡ Some (blocks.Batch c.in-Some-Batch.field-0-0) = search rules in
    (open_batch c.in-Some-Batch.field-0-0, ap (λ (s : Script). s.block) (sym c.self.view_is) ∙ ap (λ (b : Option BegunBlock). option_map block_of b) inside)
