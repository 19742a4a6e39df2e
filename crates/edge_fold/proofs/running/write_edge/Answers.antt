use Rattle.std.proofs.Common.{◌+◌, length, rules}
use Rattle.std.proofs.lemmas.Slice.{overwrites, drop-append-drop}
use Rattle.map_model.specs.declared.limits.TheConstants.{EDGE_BYTES}
use Rattle.bpf_runs.specs.declared.memory.TheConstants.{RECORD_ROOM}
use Rattle.edge_fold.proofs.running.write_edge.Goals as goal

pub returns-clause-record : goal.returns-clause-record
returns-clause-record c = search (rules, overwrites, c.write_record.ensures)

pub returns-clause-rest : goal.returns-clause-rest
returns-clause-rest c =
    drop-append-drop (length c.args.argument.now + EDGE_BYTES) c.args.memory.now.bytes c.write_record.new.bytes RECORD_ROOM c.requires (search (rules, c.write_record.auto))
