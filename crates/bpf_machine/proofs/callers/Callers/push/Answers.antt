use Rattle.std.proofs.Common.{◌≡◌, ◌<◌, length, get_or, set, add-one, refl, rules, arith}
use Rattle.std.proofs.lemmas.List.{get_or-set_same}
use Rattle.bpf_machine.specs.Seen.{no_caller}
use Rattle.bpf_machine.proofs.StackFacts.{callers_before}
use Rattle.bpf_machine.proofs.callers.Callers.push.Goals as goal

pub returns-clause-pushed : goal.returns-clause-pushed
returns-clause-pushed c =
    let kept = c.args.self.now.kept in
    let n = c.args.self.now.count in
    let inside : c.args.self.now.count < length c.args.self.now.kept = search rules in
    let last : get_or (set c.args.self.now.kept c.args.self.now.count c.args.caller) c.args.self.now.count no_caller ≡ c.args.caller = get_or-set_same c.args.self.now.kept c.args.self.now.count c.args.caller no_caller inside in
    let before = callers_before c.args.self.now.kept c.args.self.now.count c.args.self.now.count c.args.caller (omega arith) in
    rw (add-one, last, before) refl
