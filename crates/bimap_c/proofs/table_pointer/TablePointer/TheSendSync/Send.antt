-- A table pointer can be sent to another thread. It owns a table in an allocation that any thread may free.
use Rattle.std.specs.Prelude.{Option, None, Some}
use mir.Raw.{raw}
use denote.Memory.{lone}
use denote.RawPtr.{Ptr}
use denote.Struct.Struct.{exits_of}
use denote.Struct.Owning.{shape, fields, to}
use denote.Param.Send.{IsSend, AllSend, owning_send, struct_send, sendable}
use base.Shift.{Keyless}
use Rattle.std.proofs.Crossing as heap
use Rattle.std_alloc.proofs.SendSync.{quiet, lies}
use Rattle.std.specs.Box.Ownership.{box_owns}
use Rattle.std_heap.specs.declared.Global.{Global}
use Rattle.std_heap.specs.contracts.GlobalAllocator.TheImpl.{ghosts}
use Rattle.std_heap.proofs.Global.TheSendSync as handle
use Rattle.bimap_c.specs.Pointers.{pointer_owns}
use Rattle.bimap_c.specs.contracts.c_table.CTable as Table
use Rattle.bimap_c.proofs.c_table.CTable.TheSendSync.{the_send as table}
use Rattle.bimap_c.specs.contracts.table_pointer.TablePointer.{the_row, the_type}

keyless : (a : Global) (p : Ptr) (o : Option (Table.the_row).Denot) → Keyless (pointer_owns (box_owns (ghosts.dealloc_token a) Table.the_row) p o)
keyless a p None = tt
keyless a p (Some t) = (lies Table.the_row table p t, heap.frees.frees a (raw (lone Table.the_row.mir)) p)

pub send : IsSend the_row
send =
    let all : AllSend (fields the_type) = (search sendable, (handle.the_field_send, tt)) in
    owning_send the_type all (λ d. keyless d.alloc d.at d.value)
    (λ k. quiet (to the_type) (exits_of k (fields the_type)) ((struct_send (shape the_type) all).leaving k))
