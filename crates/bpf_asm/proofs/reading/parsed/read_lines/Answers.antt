use Rattle.std.proofs.Common.{◌≡◌, ◌++◌, ◌∷◌, [], map, sym, ap, ◌∙◌}
use Rattle.std.proofs.lemmas.List.{map-append}
use Rattle.bpf_asm.specs.Assembly.{items_from}
use Rattle.bpf_asm.specs.Said.{said_item, parts_behind}
use Rattle.bpf_asm.proofs.LinesLeft.{read_one}
use Rattle.bpf_asm.proofs.reading.parsed.read_lines.Goals as goal

pub loop-left-preserved : goal.loop-left-preserved
loop-left-preserved c =
    let before = map said_item c.loop-left.items.items in
    let more : map said_item c.push.new.self.items ≡ before ++ (said_item c.in-Ok.item ∷ []) = ap (map said_item) c.in_ok-push-in-Ok.ensures.items ∙ map-append said_item c.loop-left.items.items (c.in-Ok.item ∷ []) in
    let found = c.in-Ok.ensures.admits before c.loop-left.invariant.read in
    record {
      same = (rw more (sym (read_one before c.first_part.result.0.now (parts_behind 10 c.first_part.result.1) _ found.0) ∙ ap (items_from before) (sym c.first_part.ensures.first) ∙ (rw c.in-Some.is at c.loop-left.invariant.same)));
      read = (rw more found.1);
      small = c.in-Ok.ensures.small;
    }
