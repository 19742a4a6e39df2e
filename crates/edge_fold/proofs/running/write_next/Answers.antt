use Rattle.std.proofs.Common.{◌+◌, length, rules}
use Rattle.std.proofs.lemmas.Slice.{overwrites, drop-append-drop}
use Rattle.edge_fold.proofs.Numbers.{targeted}
use Rattle.map_model.specs.declared.limits.TheConstants.{EDGE_BYTES}
use Rattle.bpf_runs.specs.declared.memory.TheConstants.{RECORD_ROOM}
use Rattle.edge_fold.proofs.running.write_next.Goals as goal

pub returns-clause-record : goal.returns-clause-record
returns-clause-record c = targeted c.args.edge c.args.argument.now c.args.memory.now.bytes _ (search (rules, overwrites, c.write_target.ensures)) c.requires.begun

pub returns-clause-rest : goal.returns-clause-rest
returns-clause-rest c =
    drop-append-drop (length c.args.argument.now + EDGE_BYTES) c.args.memory.now.bytes c.write_target.new.bytes RECORD_ROOM c.requires.room (search (rules, c.write_target.auto))
