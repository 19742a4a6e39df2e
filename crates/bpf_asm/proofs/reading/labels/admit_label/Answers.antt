use Rattle.std.proofs.Common.{sym, ◌∙◌}
use Rattle.bpf_asm.proofs.Lines.{label_new, read_label, some_none}
use Rattle.bpf_asm.proofs.reading.labels.admit_label.Goals as goal

pub returns-in-Ok : goal.returns-in-Ok
returns-in-Ok c = record {
  admits = λ before read.
      let none = sym c.place_of.ensures ∙ some_none c.place_of.result (sym c.is_some.ensures ∙ c.if-is_some.false) in
      (label_new before c.args.name.now (sym (read.found c.args.name.now) ∙ none), read_label before c.args.name.now c.args.units _ _ none c.in-Ok.ensures.added read);
}
