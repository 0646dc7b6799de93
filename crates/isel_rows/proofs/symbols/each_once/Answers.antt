use Rattle.std.proofs.Common.{◌≡◌, ◌+◌, ℕ, List, [], ◌∷◌, ◌++◌, map, take, Bor, ap, sym, subst, ◌∙◌}
use Rattle.ir_core.proofs.LoopLaws.{take_item}
use Rattle.isel_rows.proofs.ProgramLaws.{AreTheNames, one_more_name, more_names}
use Rattle.isel_rows.proofs.symbols.each_once.Goals as goal

pub loop-name-preserved : goal.loop-name-preserved
loop-name-preserved c =
    let names = c.args.names.now in
    let i = c.loop-name.name-index in
    let n = c.name-item.result in
    let front = map (λ (k : Bor (List ℕ)). k.now) (take i names) in
    let split : map (λ (k : Bor (List ℕ)). k.now) (take (i + 1) names) ≡ front ++ n.now ∷ [] =
    ap (map (λ (k : Bor (List ℕ)). k.now)) (take_item names i n c.loop-name-test.true c.name-item.is) ∙ more_names (take i names) n in
    subst (λ (ns : List (List ℕ)). AreTheNames c.add.new.self ns) (sym split)
    (subst (λ (set : List (List ℕ)). AreTheNames set (front ++ n.now ∷ [])) (sym c.in_ok-add.ensures.added)
    (one_more_name c.loop-name.all front n.now c.in_ok-add.field-0 c.loop-name.invariant c.in_ok-add.ensures.new))
