use Rattle.std.proofs.Common.{◌≡◌, ◌∙◌, sym, ap, subst, leb, Some, None, rules}
use Rattle.std.specs.Prelude.{Option, slice_get}
use Rattle.std.specs.List.Sorted.{IsNonDecreasingBy}
use Rattle.std.proofs.lemmas.List.Sorted.{IsPartitionPoint-from_clause, IsPartitionedBy-leb}
use Rattle.obj_core.specs.declared.run.Run.{Run}
use Rattle.obj_core.proofs.Looked.{end_of_run, by_run, sought}
use Rattle.obj_core.proofs.runs.Runs.address.Goals as goal

pub address_by-requires : goal.address_by-requires
address_by-requires c =
    let rising = subst (IsNonDecreasingBy end_of_run) (sym c.as_slice.ensures) c.self.invariant in
    let rising_now : IsNonDecreasingBy end_of_run c.args.self.now = search rules in
    let parted = IsPartitionedBy-leb end_of_run c.as_slice.result.now c.args.at rising in
    let point = IsPartitionPoint-from_clause (λ (r : Run). leb r.end c.args.at) _ _ c.partition_point-number.ensures.partitioned parted (λ a r q k. search rules) in
    let found = sought c.args.self.now c.as_slice.result.now c.args.at c.partition_point-number.result (search rules) rising_now c.partition_point-number.ensures.bound point in
    let ahead = found.ahead c.in-Some.run'.now (search rules) in
    search (rules, ahead)

pub returns-in-Some : goal.returns-in-Some
returns-in-Some c =
    let rising = subst (IsNonDecreasingBy end_of_run) (sym c.as_slice.ensures) c.self.invariant in
    let rising_now : IsNonDecreasingBy end_of_run c.args.self.now = search rules in
    let parted = IsPartitionedBy-leb end_of_run c.as_slice.result.now c.args.at rising in
    let point = IsPartitionPoint-from_clause (λ (r : Run). leb r.end c.args.at) _ _ c.partition_point-number.ensures.partitioned parted (λ a r q k. search rules) in
    let found = sought c.args.self.now c.as_slice.result.now c.args.at c.partition_point-number.result (search rules) rising_now c.partition_point-number.ensures.bound point in
    let got : slice_get c.args.self.now c.partition_point-number.result ≡ Some c.in-Some.run'.now = search rules in
    c.address_by.ensures.value ∙ ap (λ (x : Option Run). by_run x c.args.at) (sym got) ∙ sym found.address

pub returns-in-None : goal.returns-in-None
returns-in-None c =
    let rising = subst (IsNonDecreasingBy end_of_run) (sym c.as_slice.ensures) c.self.invariant in
    let rising_now : IsNonDecreasingBy end_of_run c.args.self.now = search rules in
    let parted = IsPartitionedBy-leb end_of_run c.as_slice.result.now c.args.at rising in
    let point = IsPartitionPoint-from_clause (λ (r : Run). leb r.end c.args.at) _ _ c.partition_point-number.ensures.partitioned parted (λ a r q k. search rules) in
    let found = sought c.args.self.now c.as_slice.result.now c.args.at c.partition_point-number.result (search rules) rising_now c.partition_point-number.ensures.bound point in
    let got : slice_get c.args.self.now c.partition_point-number.result ≡ None = search rules in
    ap (λ (x : Option Run). by_run x c.args.at) (sym got) ∙ sym found.address
