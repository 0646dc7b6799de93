use Rattle.std.proofs.Common.{rules, get_or, arith, ◌≡◌, sym, ◌∙◌, ap, Option, Some, None, if◌then◌else◌, Bool, true, false}
use Rattle.std.specs.Prelude.{nat_lt, nat_eq, ◌+◌, slice_get}
use Rattle.std.proofs.lemmas.List.Sorted.{IsPartitionPoint-from_clause, IsPartitionedBy-ltb}
use Rattle.obj_core.specs.declared.object.Link.{Link}
use Rattle.std.proofs.lemmas.Bool.Decides.{nat_tests}
use Rattle.obj_core.proofs.Pieces.{get_some, get_none}
use Rattle.std.proofs.lemmas.Bool.{ltb-true, ltb-false}
use Rattle.guard_check.proofs.Linked.{link_end, by_link, link_looked}
use Rattle.guard_check.proofs.inside.slot_of_link.Goals as goal

pub returns-then-link-end : goal.returns-then-link-end
returns-then-link-end c =
    let parted = IsPartitionedBy-ltb link_end c.args.links.now c.args.end c.requires in
    let point = IsPartitionPoint-from_clause (λ (l : Link). nat_lt (l.at + 4) c.args.end) _ _ c.partition_point-k.ensures.partitioned parted (λ a r q k. search rules) in
    let e = link_looked c.args.links.now c.args.end c.partition_point-k.result c.requires c.partition_point-k.ensures.bound point in
    let is : c.in-Some.link.now ≡ get_or c.args.links.now c.partition_point-k.result c.in-Some.link.now = cc (c.in-Some.ensures.lookup.1) in
    let got : slice_get c.args.links.now c.partition_point-k.result ≡ Some c.in-Some.link.now = get_some _ _ _ (ltb-true _ _ (sym c.in-Some.ensures.lookup.0)) is in
    let test : nat_eq (c.in-Some.link.now.at + 4) c.args.end ≡ true = grind (arith, nat_tests) in
    sym (ap (λ (t : Bool). if t then Some c.in-Some.link.now.slot else None) test) ∙ sym (ap (λ (x : Option Link). by_link x c.args.end) got) ∙ e

pub returns-else-link-end : goal.returns-else-link-end
returns-else-link-end c =
    let parted = IsPartitionedBy-ltb link_end c.args.links.now c.args.end c.requires in
    let point = IsPartitionPoint-from_clause (λ (l : Link). nat_lt (l.at + 4) c.args.end) _ _ c.partition_point-k.ensures.partitioned parted (λ a r q k. search rules) in
    let e = link_looked c.args.links.now c.args.end c.partition_point-k.result c.requires c.partition_point-k.ensures.bound point in
    let is : c.in-Some.link.now ≡ get_or c.args.links.now c.partition_point-k.result c.in-Some.link.now = cc (c.in-Some.ensures.lookup.1) in
    let got : slice_get c.args.links.now c.partition_point-k.result ≡ Some c.in-Some.link.now = get_some _ _ _ (ltb-true _ _ (sym c.in-Some.ensures.lookup.0)) is in
    let test : nat_eq (c.in-Some.link.now.at + 4) c.args.end ≡ false = grind (arith, nat_tests) in
    sym (ap (λ (t : Bool). if t then Some c.in-Some.link.now.slot else None) test) ∙ sym (ap (λ (x : Option Link). by_link x c.args.end) got) ∙ e

pub returns-in-None : goal.returns-in-None
returns-in-None c =
    let parted = IsPartitionedBy-ltb link_end c.args.links.now c.args.end c.requires in
    let point = IsPartitionPoint-from_clause (λ (l : Link). nat_lt (l.at + 4) c.args.end) _ _ c.partition_point-k.ensures.partitioned parted (λ a r q k. search rules) in
    let e = link_looked c.args.links.now c.args.end c.partition_point-k.result c.requires c.partition_point-k.ensures.bound point in
    let got : slice_get c.args.links.now c.partition_point-k.result ≡ None = get_none _ _ (ltb-false _ _ (sym c.in-None.ensures.lookup.0)) in
    sym (ap (λ (x : Option Link). by_link x c.args.end) got) ∙ e
