use Rattle.std.proofs.Common.{◌≡◌, ◌+◌, ◌-◌, ◌∷◌, ◌++◌, [], length, drop, take, get_or, ap, sym, ◌∙◌, arith}
use Rattle.std.proofs.lemmas.List.{drop_more}
use Rattle.obj_core.specs.declared.object.Func.{Func}
use Rattle.obj_rows.specs.Assembled.{with_first_cuts}
use Rattle.frame_lower.specs.Blocks.{calls_of_blocks}
use Rattle.frame_lower.specs.Functions.{functions_with, function_row, making_with, saved_function, with_cuts}
use Rattle.frame_lower.specs.Given.{calls_of_functions}
use Rattle.frame_lower.proofs.Marks.{links_long}
use Rattle.frame_lower.proofs.Programs.{get_any, homes_long, homes_at, calls_more, functions_step}
use Rattle.frame_lower.proofs.program.Shared.functions.Goals as goal

pub bounds-homes-n : goal.bounds-homes-n
bounds-homes-n c =
    let same = homes_long c.args.functions.now c.args.homes.now c.requires.places in
    let below = c.loop-n-test.true in
    omega (arith, same, below)

pub function-requires-clause-places : goal.function-requires-clause-places
function-requires-clause-places c =
    homes_at c.args.functions.now c.args.homes.now c.loop-n.n c.index-functions-n.result c.as_slice.result.now c.requires.places c.loop-n-test.true c.index-functions-n.is
    (c.as_slice.ensures ∙ c.index-homes-n.is ∙ get_any c.args.homes.now c.loop-n.n c.index-homes-n.result c.as_slice.result.now
    (let same = homes_long c.args.functions.now c.args.homes.now c.requires.places in let below = c.loop-n-test.true in omega (arith, same, below)))

pub overflow_cast-slot : goal.overflow_cast-slot
overflow_cast-slot c =
    let fs = c.args.functions.now in
    let n = c.loop-n.n in
    let f = c.index-functions-n.result in
    let rest = drop (n + 1) fs in
    let split : drop n fs ≡ f ∷ rest = drop_more fs n f c.loop-n-test.true ∙ ap (λ x. x ∷ rest) (sym c.index-functions-n.is) in
    let more : calls_of_functions (drop n fs) ≡ calls_of_blocks f.blocks + calls_of_functions rest = ap calls_of_functions split ∙ calls_more f rest in
    let by = making_with c.args.self.now.globals.now c.args.self.now.functions.now c.args.self.now.reg_seed n c.names_of.result.now c.as_slice.result.now f in
    let long : c.len.result ≡ calls_of_blocks f.blocks = c.len.ensures ∙ ap (λ (g : Func). length g.links) c.in_ok-f.ensures ∙ links_long by c.loop-n.slot f in
    let before = c.loop-n.invariant.1 in
    let all = c.requires.slots in
    omega (arith, more, long, before, all)

pub overflow_add-slot : goal.overflow_add-slot
overflow_add-slot c =
    let fs = c.args.functions.now in
    let n = c.loop-n.n in
    let f = c.index-functions-n.result in
    let rest = drop (n + 1) fs in
    let split : drop n fs ≡ f ∷ rest = drop_more fs n f c.loop-n-test.true ∙ ap (λ x. x ∷ rest) (sym c.index-functions-n.is) in
    let more : calls_of_functions (drop n fs) ≡ calls_of_blocks f.blocks + calls_of_functions rest = ap calls_of_functions split ∙ calls_more f rest in
    let by = making_with c.args.self.now.globals.now c.args.self.now.functions.now c.args.self.now.reg_seed n c.names_of.result.now c.as_slice.result.now f in
    let long : c.len.result ≡ calls_of_blocks f.blocks = c.len.ensures ∙ ap (λ (g : Func). length g.links) c.in_ok-f.ensures ∙ links_long by c.loop-n.slot f in
    let before = c.loop-n.invariant.1 in
    let all = c.requires.slots in
    omega (arith, more, long, before, all)

pub loop-n-preserved : goal.loop-n-preserved
loop-n-preserved c =
    let fs = c.args.functions.now in
    let n = c.loop-n.n in
    let f = c.index-functions-n.result in
    let rest = drop (n + 1) fs in
    let names = c.args.names.now in
    let homes = c.args.homes.now in
    let globals = c.args.self.now.globals.now in
    let functions = c.args.self.now.functions.now in
    let reg_draw = c.args.self.now.reg_seed in
    let slot = c.loop-n.slot in
    let split : drop n fs ≡ f ∷ rest = drop_more fs n f c.loop-n-test.true ∙ ap (λ x. x ∷ rest) (sym c.index-functions-n.is) in
    let more : calls_of_functions (drop n fs) ≡ calls_of_blocks f.blocks + calls_of_functions rest = ap calls_of_functions split ∙ calls_more f rest in
    let by = making_with globals functions reg_draw n c.names_of.result.now c.as_slice.result.now f in
    let long : c.len.result ≡ calls_of_blocks f.blocks = c.len.ensures ∙ ap (λ (g : Func). length g.links) c.in_ok-f.ensures ∙ links_long by slot f in
    let named : c.names_of.result.now ≡ get_or names n [] = c.names_of.ensures in
    let housed : c.as_slice.result.now ≡ get_or homes n [] =
    c.as_slice.ensures ∙ c.index-homes-n.is ∙ get_any homes n c.index-homes-n.result [] (let same = homes_long fs homes c.requires.places in let below = c.loop-n-test.true in omega (arith, same, below)) in
    let left = c.loop-n.left in
    let made : c.in_ok-f.f ≡ with_cuts left (saved_function (function_row (making_with globals functions reg_draw n (get_or names n []) (get_or homes n []) f) slot f)) =
    c.in_ok-f.ensures
    ∙ ap (λ x. with_cuts left (saved_function (function_row (making_with globals functions reg_draw n x c.as_slice.result.now f) slot f))) named
    ∙ ap (λ x. with_cuts left (saved_function (function_row (making_with globals functions reg_draw n (get_or names n []) x f) slot f))) housed in
    let cuts : c.len-left.result ≡ length (take left (saved_function (function_row (making_with globals functions reg_draw n (get_or names n []) (get_or homes n []) f) slot f)).cuts) = c.len-left.ensures ∙ ap (λ (g : Func). length g.cuts) made in
    let before = c.loop-n.invariant.1 in (
      ap (λ l. l ++ with_first_cuts (left - c.len-left.result) (functions_with globals functions reg_draw names homes (n + 1) (slot + c.len.result) rest)) c.in_ok-add.ensures.put
          ∙ functions_step globals functions reg_draw names homes n slot (slot + c.len.result) left (left - c.len-left.result) f rest c.loop-n.all c.in_ok-f.f made (ap (λ k. slot + k) long) (ap (λ k. left - k) cuts)
          ∙ ap (λ xs. c.loop-n.all ++ with_first_cuts left (functions_with globals functions reg_draw names homes n slot xs)) (sym split)
          ∙ c.loop-n.invariant.0,
      omega (arith, more, long, before),
    )
