-- The variables of a function: its parameters are among them, and there are no more than its parameters and the names that are assigned.
use Rattle.std.proofs.Common.{◌≡◌, ℕ, suc, ◌+◌, ◌≤◌, Bool, true, false, List, [], ◌∷◌, ◌++◌, length, map, Option, Some, None, refl, ap, sym, ◌∙◌, arith}
use Rattle.std.specs.Prelude.{◌||◌, if◌then◌else◌}
use Rattle.std.specs.List.{flat_map}
use Rattle.std.proofs.lemmas.List.{map-append}
use Rattle.std.proofs.lemmas.List.Folds.{list_any-append}
use Rattle.ir_core.specs.declared.instruction.Inst.{Inst}
use Rattle.ir_core.specs.declared.kind.Kind.{Kind}
use Rattle.ir_core.specs.declared.module.Block.{Block}
use Rattle.ir_core.specs.declared.module.Function.{Function}
use Rattle.ir_core.specs.declared.module.Param.{Param}
use Rattle.ir_core.specs.Definitions.{is_among, repeated, result_names, param_names}
use Rattle.ir_core.specs.Names.{same_name}
use Rattle.ir_core.specs.Typing.{kind_given}
use Rattle.ir_core.specs.Valid.{LocalKind, result_local, inst_local, kinds_in, param_kind, results_of, locals_of, named_locals}
use Rattle.ir_core.proofs.Distinct.{fresh}
use Rattle.ir_sound.proofs.RowLaws.{length_map}
use Rattle.ir_sound.proofs.SameLaws.{not_true, name_is}
use Rattle.low_core.specs.Weights.{assigned, count_apart}
use Rattle.isel_rows.specs.Variables.{first_of_each, variables_of}

-- the names that a list adds to others, each once
abbrev pub firsts : List (List ℕ) → List (List ℕ) → List (List ℕ)
firsts before [] = []
firsts before (n ∷ ns) = if is_among before n then firsts before ns else n ∷ firsts (before ++ n ∷ []) ns

-- they are those that aren't repeated
firsts_length : (before ns : List (List ℕ)) → length (firsts before ns) + length (repeated before ns) ≡ length ns
firsts_length before [] = refl
firsts_length before (n ∷ ns) = by_test (is_among before n) (firsts_length before ns) (firsts_length (before ++ n ∷ []) ns)
  where
    by_test : (b : Bool) → length (firsts before ns) + length (repeated before ns) ≡ length ns → length (firsts (before ++ n ∷ []) ns) + length (repeated (before ++ n ∷ []) ns) ≡ length ns
        → length (if b then firsts before ns else n ∷ firsts (before ++ n ∷ []) ns) + length (if b then n ∷ repeated before ns else repeated (before ++ n ∷ []) ns) ≡ length (n ∷ ns)
    by_test true e f = omega (arith, e)
    by_test false e f = omega (arith, f)

-- the first of each local has one of these names
variables_length : (before : List (List ℕ)) (ls : List LocalKind) → length (first_of_each before ls) ≡ length (firsts before (named_locals ls))
variables_length before [] = refl
variables_length before (l ∷ ls) = by_test (is_among before l.name) (variables_length before ls) (variables_length (before ++ l.name ∷ []) ls)
  where
    by_test : (b : Bool) → length (first_of_each before ls) ≡ length (firsts before (named_locals ls)) → length (first_of_each (before ++ l.name ∷ []) ls) ≡ length (firsts (before ++ l.name ∷ []) (named_locals ls))
        → length (if b then first_of_each before ls else l ∷ first_of_each (before ++ l.name ∷ []) ls) ≡ length (if b then firsts before (named_locals ls) else l.name ∷ firsts (before ++ l.name ∷ []) (named_locals ls))
    by_test true e f = e
    by_test false e f = ap (λ n. suc n) f

-- among names of which there are no more than among others
abbrev Fewer : List (List ℕ) → List (List ℕ) → Type 0
Fewer few many = (n : List ℕ) → is_among many n ≡ false → is_among few n ≡ false

-- what isn't in a whole isn't in its first part
or_left : (a b : Bool) → (a || b) ≡ false → a ≡ false
or_left false b e = refl
or_left true b e = not_true (sym e)

-- nor in its second
or_right : (a b : Bool) → (a || b) ≡ false → b ≡ false
or_right false b e = e
or_right true b e = not_true (sym e)

-- what is in no part isn't in the whole
neither : (a b : Bool) → a ≡ false → b ≡ false → (a || b) ≡ false
neither false b e f = f
neither true b e f = not_true (sym e)

-- with one more in both
fewer_more : (few many : List (List ℕ)) (n : List ℕ) → Fewer few many → Fewer (few ++ n ∷ []) (many ++ n ∷ [])
fewer_more few many n fewer k none =
    let split = sym (list_any-append (same_name k) many (n ∷ [])) ∙ none in
    list_any-append (same_name k) few (n ∷ [])
    ∙ neither (is_among few k) (is_among (n ∷ []) k) (fewer k (or_left (is_among many k) (is_among (n ∷ []) k) split)) (or_right (is_among many k) (is_among (n ∷ []) k) split)

-- with one more that the others have
fewer_known : (few many : List (List ℕ)) (n : List ℕ) → is_among many n ≡ true → Fewer few many → Fewer (few ++ n ∷ []) many
fewer_known few many n there fewer k none =
    list_any-append (same_name k) few (n ∷ []) ∙ neither (is_among few k) (is_among (n ∷ []) k) (fewer k none) (neither (same_name k n) false (other (same_name k n) refl) refl)
  where
    other : (b : Bool) → same_name k n ≡ b → same_name k n ≡ false
    other false e = e
    other true e = not_true (sym none ∙ ap (is_among many) (name_is k n e) ∙ there)

-- one more in front is one more
fewer_one : (before : List (List ℕ)) (n : List ℕ) → Fewer before (before ++ n ∷ [])
fewer_one before n k none = or_left (is_among before k) (is_among (n ∷ []) k) (sym (list_any-append (same_name k) before (n ∷ [])) ∙ none)

-- behind more names fewer are new
abbrev AddsLess : List (List ℕ) → Type 0
AddsLess ns = (few many : List (List ℕ)) → Fewer few many → length (firsts many ns) ≤ length (firsts few ns)

-- so it is for all names
adds_less : (ns : List (List ℕ)) → AddsLess ns
adds_less [] few many fewer = omega arith
adds_less (n ∷ ns) few many fewer = by_test (is_among many n) (is_among few n) refl refl (adds_less ns)
  where
    by_test : (a b : Bool) → is_among many n ≡ a → is_among few n ≡ b → AddsLess ns
        → length (if a then firsts many ns else n ∷ firsts (many ++ n ∷ []) ns) ≤ length (if b then firsts few ns else n ∷ firsts (few ++ n ∷ []) ns)
    by_test true true e f go = go few many fewer
    by_test true false e f go = let h = go (few ++ n ∷ []) many (fewer_known few many n e fewer) in omega (arith, h)
    by_test false true e f go = not_true (sym (fewer n e) ∙ f)
    by_test false false e f go = let h = go (few ++ n ∷ []) (many ++ n ∷ []) (fewer_more few many n fewer) in omega (arith, h)

-- names in front of others
firsts_both : (before ps ns : List (List ℕ)) → length (firsts before (ps ++ ns)) ≤ length ps + length (firsts before ns)
firsts_both before [] ns = omega arith
firsts_both before (p ∷ ps) ns = by_test (is_among before p) (firsts_both before ps ns) (firsts_both (before ++ p ∷ []) ps ns)
  where
    by_test : (b : Bool) → length (firsts before (ps ++ ns)) ≤ length ps + length (firsts before ns) → length (firsts (before ++ p ∷ []) (ps ++ ns)) ≤ length ps + length (firsts (before ++ p ∷ []) ns)
        → length (if b then firsts before (ps ++ ns) else p ∷ firsts (before ++ p ∷ []) (ps ++ ns)) ≤ suc (length ps) + length (firsts before ns)
    by_test true e f = omega (arith, e)
    by_test false e f = let less = adds_less ns before (before ++ p ∷ []) (fewer_one before p) in omega (arith, f, less)

-- names that don't repeat are all new
firsts_apart : (before ps ns : List (List ℕ)) → repeated before ps ≡ [] → length ps ≤ length (firsts before (ps ++ ns))
firsts_apart before [] ns none = omega arith
firsts_apart before (p ∷ ps) ns none =
    let f = fresh before p ps none in
    let e : length (firsts before ((p ∷ ps) ++ ns)) ≡ suc (length (firsts (before ++ p ∷ []) (ps ++ ns))) = ap (λ b. length (if b then firsts before (ps ++ ns) else p ∷ firsts (before ++ p ∷ []) (ps ++ ns))) f.new in
    let others = firsts_apart (before ++ p ∷ []) ps ns f.rest in
    omega (arith, e, others)

-- the names of results are those that are assigned
inst_named : (into : Option (List ℕ)) (kind : Kind) → named_locals (result_local into kind) ≡ result_names into
inst_named (Some name) kind = refl
inst_named None kind = refl

-- of instructions
insts_named : (insts : List Inst) → named_locals (kinds_in insts) ≡ flat_map (λ (i : Inst). result_names i.result) insts
insts_named [] = refl
insts_named (i ∷ is) =
    map-append (λ (l : LocalKind). l.name) (inst_local i) (kinds_in is)
    ∙ ap (λ ns. ns ++ named_locals (kinds_in is)) (inst_named i.result (kind_given i.op)) ∙ ap (λ ns. result_names i.result ++ ns) (insts_named is)

-- of blocks
blocks_named : (bs : List Block) → named_locals (results_of bs) ≡ flat_map (λ (b : Block). flat_map (λ (i : Inst). result_names i.result) b.insts) bs
blocks_named [] = refl
blocks_named (b ∷ bs) =
    map-append (λ (l : LocalKind). l.name) (kinds_in b.insts) (results_of bs)
    ∙ ap (λ ns. ns ++ named_locals (results_of bs)) (insts_named b.insts) ∙ ap (λ ns. flat_map (λ (i : Inst). result_names i.result) b.insts ++ ns) (blocks_named bs)

-- the names of parameters
params_named : (ps : List Param) → named_locals (map param_kind ps) ≡ map (λ (p : Param). p.name) ps
params_named [] = refl
params_named (p ∷ ps) = ap (λ ns. p.name ∷ ns) (params_named ps)

-- the names of all locals
locals_named : (f : Function) → named_locals (locals_of f) ≡ param_names f ++ assigned f
locals_named f =
    map-append (λ (l : LocalKind). l.name) (map param_kind f.params) (results_of f.blocks)
    ∙ ap (λ ns. ns ++ named_locals (results_of f.blocks)) (params_named f.params) ∙ ap (λ ns. param_names f ++ ns) (blocks_named f.blocks)

-- there are as many variables as names that differ
variables_are : (f : Function) → length (variables_of f) ≡ length (firsts [] (param_names f ++ assigned f))
variables_are f = variables_length [] (locals_of f) ∙ ap (λ ns. length (firsts [] ns)) (locals_named f)

-- so many variables there are at most
pub variables_few : (f : Function) → length (variables_of f) ≤ length f.params + count_apart (assigned f)
variables_few f =
    let a = variables_are f in
    let b = firsts_both [] (param_names f) (assigned f) in
    let c = firsts_length [] (assigned f) in
    let d = length_map (λ (p : Param). p.name) f.params in
    omega (arith, a, b, c, d)

-- and as many as parameters at least
pub variables_enough : (f : Function) → repeated [] (param_names f) ≡ [] → length f.params ≤ length (variables_of f)
variables_enough f none =
    let a = variables_are f in
    let b = firsts_apart [] (param_names f) (assigned f) none in
    let d = length_map (λ (p : Param). p.name) f.params in
    omega (arith, a, b, d)
