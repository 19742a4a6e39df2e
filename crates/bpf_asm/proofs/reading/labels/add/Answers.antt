use Rattle.std.proofs.lemmas.Map.Text.{hash_map_updates_str}
use Rattle.bpf_asm.proofs.reading.labels.add.Goals as goal

pub returns-in-Ok-clause-added : goal.returns-in-Ok-clause-added
returns-in-Ok-clause-added c = hash_map_updates_str c.args.name.now c.args.labels.now c.insert.new.self _ c.in-Ok.ensures.updates
