-- A handle may cross to another thread.
use mathlib.Core.Bool.{Bool, true, false}
use mir.Raw.{raw}
use base.Shift.{Keyless}
use denote.Memory.{lone}
use denote.RawPtr.{Ptr}
use denote.Struct.Struct.{exits_of}
use denote.Struct.Owning.{shape, fields, to}
use denote.Param.Send.{IsSend, AllSend, owning_send, struct_send, sendable}
use Rattle.libc.specs.Heap.{chunk-Keyless}
use Rattle.std.specs.declared.option.Option.{Option}
use Rattle.std.specs.declared.option.Option.TheVariants.{None, Some}
use Rattle.std_alloc.proofs.SendSync.{quiet, lies}
use Rattle.wlb_client.specs.declared.page.Page.{Page}
use Rattle.wlb_client.specs.contracts.page.Page as page
use Rattle.wlb_client.proofs.page.Page.TheSendSync.{the_send as page_send}
use Rattle.wlb_client.specs.Handle.{handle_owns}
use Rattle.wlb_client.specs.contracts.handle.Handle.{the_row, the_type}

handle_keyless : (y : Bool) (p : Ptr) (x : Option Page) → Keyless (handle_owns y p x)
handle_keyless true p (Some x) = (lies page.the_row page_send p x, chunk-Keyless (raw (lone page.the_row.mir)) p)
handle_keyless true p None = tt
handle_keyless false p None = tt
handle_keyless false p (Some x) = tt

pub send : IsSend the_row
send =
    let all : AllSend (fields the_type) = (search sendable, (search sendable, tt)) in
    owning_send the_type all (λ h. handle_keyless h.full h.at h.value)
    (λ k. quiet (to the_type) (exits_of k (fields the_type)) ((struct_send (shape the_type) all).leaving k))
