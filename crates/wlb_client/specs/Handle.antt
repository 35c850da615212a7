-- Memory that a handle owns: the box of a page, or none.
use mathlib.Core.Bool.{Bool, true, false}
use base.Fml.{Fml, ftrue, ffalse}
use denote.RawPtr.{Ptr}
use Rattle.libc.specs.Heap.{chunk}
use Rattle.std.specs.declared.option.Option.{Option}
use Rattle.std.specs.declared.option.Option.TheVariants.{None, Some}
use Rattle.std_alloc.specs.Box.Ownership.{box_owns}
use Rattle.wlb_client.specs.declared.page.Page.{Page}
use Rattle.wlb_client.specs.contracts.page.Page.{the_row}

abbrev pub handle_owns : Bool → Ptr → Option Page → Fml
handle_owns true p (Some x) = box_owns chunk the_row p x
handle_owns true p None = ffalse
handle_owns false p None = ftrue
handle_owns false p (Some x) = ffalse
