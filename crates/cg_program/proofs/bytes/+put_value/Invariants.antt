use Rattle.std.proofs.Common.{◌≡◌, ◌+◌, ◌*◌, ◌++◌, drop, slice_get}
use Rattle.c_types.specs.Layout.{shape_of, size_of}
use Rattle.c_types.specs.Recursion.{depth}
use Rattle.src_meaning.specs.ValueBytes as spec
use Rattle.cg_program.specs.Parts.{fields_in}
use Rattle.cg_program.proofs.bytes.+put_value.Given as goal

abbrev pub decreases-put_value : goal.decreases-put_value
decreases-put_value l = 2 * depth l.layout.now.types.now l.number + 1

abbrev pub decreases-put_struct : goal.decreases-put_struct
decreases-put_struct l = 2 * depth l.layout.now.types.now l.number

abbrev pub decreases-put_union : goal.decreases-put_union
decreases-put_union l = 2 * depth l.layout.now.types.now l.number

abbrev pub decreases-put_items : goal.decreases-put_items
decreases-put_items l = 2 * depth l.layout.now.types.now l.elem + 2

abbrev pub invariant-put_items-loop-value : goal.invariant-put_items-loop-value
invariant-put_items-loop-value l =
    let bytes = spec.items_bytes (spec.bytes_of l.layout.types.now l.layout.addresses.now l.elem) in
    l.fn.bytes.items ++ bytes l.values ≡ l.bytes.items ++ bytes (drop l.value-index l.values)

abbrev pub invariant-put_struct-loop-index : goal.invariant-put_struct-loop-index
invariant-put_struct-loop-index l =
    let p = l.layout.types.now in
    let rest = spec.fields_bytes (shape_of p) (spec.bytes_of p l.layout.addresses.now) (size_of p l.number) in
    let fields = fields_in p (slice_get p.types l.number) in
    l.fn.bytes.items ++ rest fields l.values 0 ≡ l.bytes.items ++ rest (drop l.index fields) (drop l.index l.values) l.end
