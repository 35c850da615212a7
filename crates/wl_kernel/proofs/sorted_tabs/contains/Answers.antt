use Rattle.std.proofs.Common.{◌∙◌}
use Rattle.std.proofs.lemmas.List.Sorted.{searched}
use Rattle.wl_kernel.proofs.RisingNumbers.{rises_order, is_found}
use Rattle.wl_kernel.proofs.sorted_tabs.contains.Goals as goal

pub returns : goal.returns
returns c =
    let xs = c.args.numbers.now in
    c.is_ok.ensures.value ∙ is_found xs c.args.number c.binary_search.result
    (searched xs c.args.number c.binary_search.result c.binary_search.ensures.position (rises_order 0 xs c.requires))
