use Rattle.std.proofs.Common.{◌≡◌, take, slice_get}
use Rattle.src_tree.specs.declared.value.Value.{Int}
use Rattle.src_meaning.specs.Initial.{byte_in, item_types}
use Rattle.src_meaning.proofs.InitialLemmas.{paired}
use Rattle.src_model.proofs.initial.text_items.Given as goal

abbrev pub invariant-loop-byte : goal.invariant-loop-byte
invariant-loop-byte l =
    l.items ≡ paired (λ t b. Int (byte_in (slice_get l.types.types t) b)) (item_types l.types l.number) (take l.byte-index l.bytes)
