use Rattle.std.proofs.Common.{rules, nat_le}
use Rattle.std.proofs.lemmas.List.Sorted.{IsPartitionPoint-from_clause, IsPartitionedBy-leb}
use Rattle.bm_pages.proofs.ExtentLemmas.{extents_rise, count_from_extents}
use Rattle.bm_pages.proofs.extents.count_up_to.Goals as goal

pub returns : goal.returns
returns c =
    let es = c.args.extents.now in
    let parted = IsPartitionPoint-from_clause (λ e. nat_le e.addr c.args.addr) es c.partition_point.result c.partition_point.ensures.partitioned (IsPartitionedBy-leb (λ e. e.addr) es c.args.addr (extents_rise es c.requires)) (λ a r f' called. search rules) in
    count_from_extents es c.args.addr c.partition_point.result parted c.partition_point.ensures.bound
