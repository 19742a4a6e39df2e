use Rattle.bpf_asm.specs.Said.{said_argument}
use Rattle.bpf_asm.proofs.Gathering.{arguments_more}
use Rattle.bpf_asm.proofs.reading.statement_arguments.arguments_in.Goals as goal
use Rattle.std.proofs.Common.{sym, ◌∙◌}

pub returns : goal.returns
returns c =
    arguments_more c.args.text.now c.is_empty.result (said_argument c.in_ok-first.first) (said_argument c.in_ok-second.second) (said_argument c.in_ok-third.third) c.in_ok-first.rest c.in_ok-second.rest c.in_ok-third.rest c.in-Some.rest c.in-Some-rest.rest c.in-Some-rest-2.rest c.is_empty.ensures c.if-is_empty.false c.in_ok-first.ensures.first c.in-Some.is c.in_ok-second.ensures.first c.in-Some-rest.is c.in_ok-third.ensures.first c.in-Some-rest-2.is (sym c.are_arguments.ensures ∙ c.if-not-are_arguments.false)
