use Rattle.std.proofs.Common.{◌-◌, leb, ltb, take, drop, length, get_or, arith, rules}
use Rattle.std.proofs.lemmas.Bool.{ltb-true, leb-false}
use Rattle.std.proofs.lemmas.List.{take_rest}
use Rattle.std.proofs.lemmas.List.Sorted.{IsPartitionPoint-from_clause, IsPartitionedBy-leb, IsPartitionedBy-ltb, IsNonDecreasingBy-take, IsNonDecreasingBy-drop}
use Rattle.std.specs.List.Sorted.{IsNonDecreasingBy}
use Rattle.amq_print.proofs.Files.{part_has_all}
use Rattle.amq_print.proofs.records.part_with.Goals as goal

pub returns : goal.returns
returns c =
    let base = c.args.base.now in
    let id = c.args.file in
    let first = c.partition_point-first.result in
    let count = c.partition_point-count.result in
    let rest = take (length base - first) (drop first base) in
    let up : IsNonDecreasingBy (λ p. p.file) base = c.requires c.if-not-ascends.false in
    let rest_up : IsNonDecreasingBy (λ p. p.file) rest = IsNonDecreasingBy-take (λ p. p.file) (length base - first) (drop first base) (IsNonDecreasingBy-drop (λ p. p.file) first base up) in
    let lesser = IsPartitionPoint-from_clause (λ p. ltb p.file id) base first c.partition_point-first.ensures.partitioned (IsPartitionedBy-ltb (λ p. p.file) base id up) (λ a r q k. search rules) in
    let greater = IsPartitionPoint-from_clause (λ p. leb p.file id) rest count c.partition_point-count.ensures.partitioned (IsPartitionedBy-leb (λ p. p.file) rest id rest_up) (λ a r q k. search rules) in
    part_has_all id first count base rest (take_rest base first) c.partition_point-first.ensures.bound
    (λ k d lt. ltb-true (get_or base k d).file id (lesser.0 k d (omega arith) lt))
    (λ k d from lt. leb-false (get_or rest k d).file id (greater.1 k d from lt))
