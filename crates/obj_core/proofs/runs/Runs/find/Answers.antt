use Rattle.std.proofs.Common.{rules, sym, subst, leb}
use Rattle.std.specs.List.Sorted.{IsNonDecreasingBy}
use Rattle.std.proofs.lemmas.List.Sorted.{IsPartitionPoint-from_clause, IsPartitionedBy-leb}
use Rattle.obj_core.specs.declared.run.Run.{Run}
use Rattle.obj_core.proofs.Looked.{end_of_run, located}
use Rattle.obj_core.proofs.runs.Runs.find.Goals as goal

pub bounds-as_slice-number : goal.bounds-as_slice-number
bounds-as_slice-number c =
    let rising = subst (IsNonDecreasingBy end_of_run) (sym c.as_slice.ensures) c.self.invariant in
    let parted = IsPartitionedBy-leb end_of_run c.as_slice.result.now c.args.at rising in
    let point = IsPartitionPoint-from_clause (λ (r : Run). leb r.end c.args.at) _ _ c.partition_point-number.ensures.partitioned parted (λ a r q k. search rules) in
    (located c.args.self.now c.as_slice.result.now c.as_slice-2.result.now c.args.at c.partition_point-number.result (record { front = 0; end = 0; start = 0 }) (search rules) (search rules) c.requires c.partition_point-number.ensures.bound point).within

pub returns-clause-ahead : goal.returns-clause-ahead
returns-clause-ahead c =
    let rising = subst (IsNonDecreasingBy end_of_run) (sym c.as_slice.ensures) c.self.invariant in
    let parted = IsPartitionedBy-leb end_of_run c.as_slice.result.now c.args.at rising in
    let point = IsPartitionPoint-from_clause (λ (r : Run). leb r.end c.args.at) _ _ c.partition_point-number.ensures.partitioned parted (λ a r q k. search rules) in
    (located c.args.self.now c.as_slice.result.now c.as_slice-2.result.now c.args.at c.partition_point-number.result (record { front = 0; end = 0; start = 0 }) (search rules) (search rules) c.requires c.partition_point-number.ensures.bound point).ahead

pub returns-clause-addresses : goal.returns-clause-addresses
returns-clause-addresses c =
    let rising = subst (IsNonDecreasingBy end_of_run) (sym c.as_slice.ensures) c.self.invariant in
    let parted = IsPartitionedBy-leb end_of_run c.as_slice.result.now c.args.at rising in
    let point = IsPartitionPoint-from_clause (λ (r : Run). leb r.end c.args.at) _ _ c.partition_point-number.ensures.partitioned parted (λ a r q k. search rules) in
    (located c.args.self.now c.as_slice.result.now c.as_slice-2.result.now c.args.at c.partition_point-number.result (record { front = 0; end = 0; start = 0 }) (search rules) (search rules) c.requires c.partition_point-number.ensures.bound point).addresses
