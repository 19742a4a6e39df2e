-- A handle goes where the box of what it holds goes; an empty one owns nothing.
use base.Shift.{Keyless}
use mir.Raw.{raw}
use denote.Memory.{lone}
use denote.RawPtr.{Ptr}
use denote.Struct.Struct.{exits_of}
use denote.Struct.Owning.{shape, fields, to}
use denote.Param.Send.{IsSend, AllSend, owning_send, struct_send, sendable}
use Rattle.core.specs.declared.option.Option.{Option}
use Rattle.core.specs.declared.option.Option.TheVariants.{None, Some}
use Rattle.std_heap.specs.declared.Global.{Global}
use Rattle.embedding.specs.Handle.{handle_owns}
use Rattle.std.proofs.Crossing as heap
use Rattle.std_alloc.proofs.SendSync.{quiet, lies}
use Rattle.std_heap.proofs.Global.TheSendSync as allocator
use Rattle.embedding.specs.contracts.held.Held as held
use Rattle.embedding.proofs.held.Held.TheSendSync.{the_send as kinds}
use Rattle.embedding.specs.contracts.handle.Handle.{the_row, the_type}

-- none of it is tied to a thread
keyless : (alloc : Global) (p : Ptr) (o : Option held.the_row.Denot) → Keyless (handle_owns alloc p o)
keyless alloc p None = tt
keyless alloc p (Some x) = (lies held.the_row kinds p x, heap.frees.frees alloc (raw (lone held.the_row.mir)) p)

pub send : IsSend the_row
send =
    let each : AllSend (fields the_type) = (search sendable, (allocator.the_field_send, tt)) in
    owning_send the_type each (λ d. keyless d.alloc d.at d.held)
    (λ k. quiet (to the_type) (exits_of k (fields the_type)) ((struct_send (shape the_type) each).leaving k))
