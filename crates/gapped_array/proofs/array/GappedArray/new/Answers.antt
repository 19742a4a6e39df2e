use Rattle.std.proofs.Common.{◌++◌, ◌-◌, take, replicate, None, ap₂, ◌∙◌}
use Rattle.gapped_array.proofs.Layouts.{none_open}
use Rattle.gapped_array.proofs.array.GappedArray.new.Goals as goal

pub invariant_of-result : goal.invariant_of-result
invariant_of-result c =
    none_open c.new.result.items c.resize.new.self.items c.new.ensures.items (c.in_ok-resize.ensures.items ∙ ap₂ (λ l n. take 256 l ++ replicate (256 - n) None) c.new-runs.ensures.items c.new-runs.ensures.len)
