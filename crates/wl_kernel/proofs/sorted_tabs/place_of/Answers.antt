use Rattle.std.proofs.Common.{Ok, Err}
use Rattle.std.proofs.lemmas.List.Sorted.{searched}
use Rattle.wl_kernel.proofs.RisingNumbers.{Found, rises_order, put_in_found, put_in_between}
use Rattle.wl_kernel.proofs.sorted_tabs.place_of.Goals as goal

pub returns-in-Ok-clause-place : goal.returns-in-Ok-clause-place
returns-in-Ok-clause-place c =
    let xs = c.args.numbers.now in
    let found : Found xs c.args.number (Ok c.in-Ok.place) = searched xs c.args.number (Ok c.in-Ok.place) c.in-Ok.ensures.position (rises_order 0 xs c.requires) in
    put_in_found xs c.args.number c.in-Ok.place c.requires found.0 found.1

pub returns-in-Ok-2-clause-place : goal.returns-in-Ok-2-clause-place
returns-in-Ok-2-clause-place c =
    let xs = c.args.numbers.now in
    put_in_between xs c.args.number c.in-Ok.place (searched xs c.args.number (Err c.in-Ok.place) c.in-Ok.ensures.position (rises_order 0 xs c.requires))
