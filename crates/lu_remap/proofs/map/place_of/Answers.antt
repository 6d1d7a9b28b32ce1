use Rattle.std.proofs.Common.{sym, Ok, Err}
use Rattle.std.proofs.lemmas.List.Sorted.{searched}
use Rattle.lu_remap.proofs.Numbers.{do_not_fall, found_at, none_of}
use Rattle.lu_remap.proofs.map.place_of.Goals as goal

pub returns-in-Ok-clause-value : goal.returns-in-Ok-clause-value
returns-in-Ok-clause-value c =
    let xs = c.args.numbers.now in
    let s = searched xs c.args.k (Ok c.in-Ok.i) c.in-Ok.ensures.position (do_not_fall xs c.requires) in
    sym (found_at xs c.requires c.args.k c.in-Ok.i s.0 s.1)

pub returns-in-Err-clause-value : goal.returns-in-Err-clause-value
returns-in-Err-clause-value c =
    let xs = c.args.numbers.now in
    let s = searched xs c.args.k (Err c.in-Err.field-0) c.in-Err.ensures.position (do_not_fall xs c.requires) in
    sym (none_of xs c.args.k c.in-Err.field-0 s.1 s.2)
