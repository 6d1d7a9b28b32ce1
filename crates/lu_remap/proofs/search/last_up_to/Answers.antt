use Rattle.std.proofs.Common.{rules, nat_le}
use Rattle.std.proofs.lemmas.List.Sorted.{IsPartitionPoint-from_clause, IsPartitionedBy-leb}
use Rattle.bm_objects.proofs.TableLemmas.{addresses_rise, last_from_partition}
use Rattle.lu_remap.proofs.search.last_up_to.Goals as goal

pub returns : goal.returns
returns c =
    let rows = c.args.rows.now in
    let parted = IsPartitionPoint-from_clause (λ row. nat_le row.addr c.args.addr) rows c.partition_point-count.result c.partition_point-count.ensures.partitioned (IsPartitionedBy-leb (λ row. row.addr) rows c.args.addr (addresses_rise rows c.requires)) (λ a r f' called. search rules) in
    last_from_partition rows c.args.addr c.partition_point-count.result c.checked_sub.result parted c.partition_point-count.ensures.bound c.checked_sub.ensures
