use Rattle.std.proofs.Common.{◌==◌, Vec, ap, ◌∙◌, rules, tests}
use Rattle.std.specs.declared.alloc.Global.{Global}
use Rattle.std.proofs.lemmas.Iterator.{YieldsList-from_slice}
use Rattle.std.proofs.lemmas.Iterator.Search.{all_from_yields_List}
use Rattle.past_model.specs.declared.edit.Edit.{Edit}
use Rattle.store_model.specs.Core.{is_whole}
use Rattle.stream_core.specs.Work.{holding_of}
use Rattle.stream_core.proofs.LeftLemmas.{whole_is}
use Rattle.stream_core.proofs.held.Held.is_whole.Goals as goal

pub returns : goal.returns
returns c =
    let h = c.self.inside in
    all_from_yields_List (λ (v : Vec Edit Global). v.len == 0) _ _ _ c.all.ensures.ran (YieldsList-from_slice h.left.items (c.iter.ensures.rest ∙ c.deref.ensures.value)) (λ x b q k. search (rules, tests))
    ∙ whole_is (record { entry = h.entry; done = h.done.items }) h.left.items c.self.invariant
    ∙ ap (λ w. is_whole (holding_of w)) c.self.view_is
