use Rattle.std.proofs.Common.{rules, nat_le}
use Rattle.std.proofs.lemmas.List.Sorted.{IsPartitionPoint-from_clause, IsPartitionedBy-leb}
use Rattle.bm_mem.proofs.ObjectLemmas.{objects_rise, count_from_objects}
use Rattle.bm_mem.proofs.vec_bytes.count_up_to.Goals as goal

pub returns : goal.returns
returns c =
    let os = c.args.objects.now in
    let parted = IsPartitionPoint-from_clause (λ o. nat_le o.addr c.args.addr) os c.partition_point.result c.partition_point.ensures.partitioned (IsPartitionedBy-leb (λ o. o.addr) os c.args.addr (objects_rise os c.requires)) (λ a r f' called. search rules) in
    count_from_objects os c.args.addr c.partition_point.result parted c.partition_point.ensures.bound
