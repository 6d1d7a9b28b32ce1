use Rattle.std.proofs.Common.{◌≡◌, ◌+◌, ◌-◌, ◌*◌, ◌++◌, drop}
use Rattle.lu_image_store.specs.Versions.{old_size}
use Rattle.lu_scan.specs.Scan.{words_in, fields_words, items_words}
use Rattle.lu_scan.specs.Given.{versions, pairs_between}
use Rattle.lu_scan.proofs.values.+scan.Given as goal

abbrev pub decreases-scan : goal.decreases-scan
decreases-scan l = 4 * l.depth

abbrev pub decreases-scan_pair : goal.decreases-scan_pair
decreases-scan_pair l = 4 * l.depth + 1

abbrev pub decreases-scan_fields : goal.decreases-scan_fields
decreases-scan_fields l = 4 * l.depth + 2

abbrev pub decreases-scan_struct : goal.decreases-scan_struct
decreases-scan_struct l = 4 * l.depth + 3

abbrev pub decreases-scan_union : goal.decreases-scan_union
decreases-scan_union l = 4 * l.depth + 2

abbrev pub decreases-scan_items : goal.decreases-scan_items
decreases-scan_items l = 4 * l.depth + 2

abbrev pub invariant-scan_items-loop-item : goal.invariant-scan_items-loop-item
invariant-scan_items-loop-item l =
    let words = items_words (words_in (versions l.programs) l.depth l.part.ty l.part.handled l.part.new) (old_size (versions l.programs) l.part.ty) in
    l.fn.words.items ++ words l.count l.bytes ≡ l.words.items ++ words (l.count - l._item) l.rest

abbrev pub invariant-scan_fields-loop-number : goal.invariant-scan_fields-loop-number
invariant-scan_fields-loop-number l =
    let m = versions l.programs in
    let pairs = pairs_between m l.fields.old.now l.fields.new.now l.fields.pairs in
    let words = fields_words m (λ t. words_in m l.depth t l.handled) l.fields.new.now l.bytes in
    l.fn.words.items ++ words l.fields.old.now pairs 0 ≡ l.words.items ++ words (drop l.number l.fields.old.now) (drop l.number pairs) l.end
