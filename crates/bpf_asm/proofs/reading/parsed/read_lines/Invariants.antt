use Rattle.std.proofs.Common.{◌≡◌, ◌≤◌, map}
use Rattle.std.specs.Str.{bytes_eq}
use Rattle.std.specs.HashMap as hash
use Rattle.bpf_isa.specs.declared.limits.TheConstants.{MOST_UNITS}
use Rattle.bpf_asm.specs.Assembly.{items_from, items}
use Rattle.bpf_asm.specs.Said.{said_item, parts_behind, IsRead}
use Rattle.bpf_asm.proofs.LinesLeft.{left_over}
use Rattle.bpf_asm.proofs.reading.parsed.read_lines.Given as goal

abbrev pub invariant-loop-left : goal.invariant-loop-left
invariant-loop-left l = record {
  same : items_from (map said_item l.items.items) (parts_behind 10 l.left) ≡ items l.text;
  read : IsRead (map said_item l.items.items) l.units (λ q. hash.get_by (λ k. bytes_eq q k.now) l.labels);
  small : l.units ≤ MOST_UNITS;
}

abbrev pub decreases-loop-left : goal.decreases-loop-left
decreases-loop-left l = left_over l.left
