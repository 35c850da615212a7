-- A handle may cross to another thread.
use mathlib.Core.Bool.{Bool, true, false}
use mir.Raw.{raw}
use base.Shift.{Keyless}
use denote.Memory.{lone}
use denote.RawPtr.{Ptr}
use denote.Struct.Struct.{exits_of}
use denote.Struct.Owning.{shape, fields, to}
use denote.Param.Send.{IsSend, AllSend, owning_send, struct_send, sendable}
use Rattle.libc.specs.Heap.{chunk-Keyless}
use Rattle.std.specs.declared.option.Option.{Option}
use Rattle.std.specs.declared.option.Option.TheVariants.{None, Some}
use Rattle.std_alloc.proofs.SendSync.{quiet, lies}
use Rattle.wl_hub.specs.Hub.{HubState}
use Rattle.wl_hub.specs.contracts.hub.Hub as hub
use Rattle.wl_hub.proofs.hub.Hub.TheSendSync.{the_send as hub_send}
use Rattle.wlb_hub.specs.Handle.{handle_owns}
use Rattle.wlb_hub.specs.contracts.handle.Handle.{the_row, the_type}

handle_keyless : (y : Bool) (p : Ptr) (x : Option HubState) → Keyless (handle_owns y p x)
handle_keyless true p (Some x) = (lies hub.the_row hub_send p x, chunk-Keyless (raw (lone hub.the_row.mir)) p)
handle_keyless true p None = tt
handle_keyless false p None = tt
handle_keyless false p (Some x) = tt

pub send : IsSend the_row
send =
    let all : AllSend (fields the_type) = (search sendable, (search sendable, tt)) in
    owning_send the_type all (λ h. handle_keyless h.full h.at h.value)
    (λ k. quiet (to the_type) (exits_of k (fields the_type)) ((struct_send (shape the_type) all).leaving k))
