-- Where no name of a module is defined twice, none of the lists of names that lookups go by has a name twice.
use Rattle.std.proofs.Common.{◌≡◌, ℕ, Bool, true, false, List, [], ◌∷◌, ◌++◌, map, Option, Some, None, refl, ap, sym, ◌∙◌, subst, if◌then◌else◌, zero, suc, ◌<◌, length, get_or, arith}
use Rattle.std.specs.Prelude.{◌||◌}
use Rattle.std.specs.List.{flat_map}
use Rattle.std.proofs.lemmas.List.{map-append, append_assoc, append-nil}
use Rattle.std.proofs.lemmas.List.Folds.{list_any-append}
use Rattle.ir_core.specs.declared.instruction.Inst.{Inst}
use Rattle.ir_core.specs.declared.module.Block.{Block}
use Rattle.ir_core.specs.declared.module.Param.{Param}
use Rattle.ir_core.specs.declared.module.Function.{Function}
use Rattle.ir_core.specs.declared.module.Module.{Module}
use Rattle.ir_core.specs.Names.{same_name}
use Rattle.ir_core.specs.Kinds.{Kind}
use Rattle.ir_core.specs.Definitions.{local_mark, global_mark, type_names, variable_names, extern_names, function_names, result_names, block_names, param_names, label_names, local_names, is_among, repeated, repeated_in, doubled}
use Rattle.ir_core.specs.Typing.{kind_given}
use Rattle.ir_core.specs.Valid.{LocalKind, result_local, inst_local, kinds_in, param_kind, locals_of, named_locals}

-- what is known of a name in front of others, none of which repeats
pub record Fresh (before : List (List ℕ)) (name : List ℕ) (names : List (List ℕ)) : Type 0 where
  pub new : is_among before name ≡ false
  pub rest : repeated (before ++ name ∷ []) names ≡ []

-- a row that has an item isn't empty
not_empty : {A X : Type 0} (x : X) (xs : List X) → x ∷ xs ≡ [] → A
not_empty x xs e = absurd (cc)

-- the first of names that don't repeat is new
pub fresh : (before : List (List ℕ)) (name : List ℕ) (names : List (List ℕ)) → repeated before (name ∷ names) ≡ [] → Fresh before name names
fresh before name names none = of_bool (is_among before name) refl none
  where
    of_bool : (b : Bool) → is_among before name ≡ b → (if b then name ∷ repeated before names else repeated (before ++ name ∷ []) names) ≡ [] → Fresh before name names
    of_bool true e none = not_empty name (repeated before names) none
    of_bool false e none = record { new = e; rest = none }

-- and back
pub fresh_back : (before : List (List ℕ)) (name : List ℕ) (names : List (List ℕ)) → Fresh before name names → repeated before (name ∷ names) ≡ []
fresh_back before name names f = ap (λ b. if b then name ∷ repeated before names else repeated (before ++ name ∷ []) names) f.new ∙ f.rest

-- what isn't in a whole isn't in its parts
or_left : (a b : Bool) → (a || b) ≡ false → a ≡ false
or_left false b e = refl
or_left true b e = absurd (cc)

-- nor in the other part
or_right : (a b : Bool) → (a || b) ≡ false → b ≡ false
or_right false b e = e
or_right true b e = absurd (cc)

-- among names of which there are no more than among others
abbrev Fewer : List (List ℕ) → List (List ℕ) → Type 0
Fewer few many = (name : List ℕ) → is_among many name ≡ false → is_among few name ≡ false

-- with one more in both
fewer_more : (few many : List (List ℕ)) (n : List ℕ) → Fewer few many → Fewer (few ++ n ∷ []) (many ++ n ∷ [])
fewer_more few many n less name none =
    let split = sym (list_any-append (same_name name) many (n ∷ [])) ∙ none in
    list_any-append (same_name name) few (n ∷ [])
    ∙ ap (λ b. b || is_among (n ∷ []) name) (less name (or_left (is_among many name) (is_among (n ∷ []) name) split))
    ∙ or_right (is_among many name) (is_among (n ∷ []) name) split

-- with one in the greater alone
fewer_one : (names : List (List ℕ)) (n : List ℕ) → Fewer names (names ++ n ∷ [])
fewer_one names n name none = or_left (is_among names name) (is_among (n ∷ []) name) (sym (list_any-append (same_name name) names (n ∷ [])) ∙ none)

-- fewer names in front repeat no more
fewer_repeat : (few many names : List (List ℕ)) → Fewer few many → repeated many names ≡ [] → repeated few names ≡ []
fewer_repeat few many [] less none = refl
fewer_repeat few many (n ∷ ns) less none =
    let f = fresh many n ns none in
    fresh_back few n ns (record { new = less n f.new; rest = fewer_repeat (few ++ n ∷ []) (many ++ n ∷ []) ns (fewer_more few many n less) f.rest })

-- names that don't repeat, in two parts
pub repeated_split : (before xs ys : List (List ℕ)) → repeated before (xs ++ ys) ≡ [] → (repeated before xs ≡ []) × (repeated (before ++ xs) ys ≡ [])
repeated_split before [] ys none = (refl, ap (λ b. repeated b ys) (append-nil before) ∙ none)
repeated_split before (x ∷ xs) ys none =
    let f = fresh before x (xs ++ ys) none in
    let go = repeated_split (before ++ x ∷ []) xs ys f.rest in
    (fresh_back before x xs (record { new = f.new; rest = go.0 }), ap (λ b. repeated b ys) (sym (append_assoc before (x ∷ []) xs)) ∙ go.1)

-- a list with some items left out
pub data Sub : List (List ℕ) → List (List ℕ) → Type 0 where
  Done : Sub [] []
  Keeps : (n : List ℕ) {few many : List (List ℕ)} → Sub few many → Sub (n ∷ few) (n ∷ many)
  Skips : (n : List ℕ) {few many : List (List ℕ)} → Sub few many → Sub few (n ∷ many)

-- it repeats no more
pub sub_repeat : (before : List (List ℕ)) {few many : List (List ℕ)} → Sub few many → repeated before many ≡ [] → repeated before few ≡ []
sub_repeat before Done none = refl
sub_repeat before (Keeps n {few = few} {many = many} s) none =
    let f = fresh before n many none in
    fresh_back before n few (record { new = f.new; rest = sub_repeat (before ++ n ∷ []) s f.rest })
sub_repeat before (Skips n {few = few} {many = many} s) none =
    let f = fresh before n many none in
    sub_repeat before s (fewer_repeat before (before ++ n ∷ []) many (fewer_one before n) f.rest)

-- a whole list
sub_all : (names : List (List ℕ)) → Sub names names
sub_all [] = Done
sub_all (n ∷ ns) = Keeps n (sub_all ns)

-- none of it
sub_none : (names : List (List ℕ)) → Sub [] names
sub_none [] = Done
sub_none (n ∷ ns) = Skips n (sub_none ns)

-- one list behind another
sub_append : {few many fewer more : List (List ℕ)} → Sub few many → Sub fewer more → Sub (few ++ fewer) (many ++ more)
sub_append Done t = t
sub_append (Keeps n s) t = Keeps n (sub_append s t)
sub_append (Skips n s) t = Skips n (sub_append s t)

-- a result that is a local
sub_result : (o : Option (List ℕ)) (k : Kind) → Sub (named_locals (result_local o k)) (result_names o)
sub_result (Some name) k = Keeps name Done
sub_result None k = Done

-- the names of one row of locals behind another
pub named-append : (xs ys : List LocalKind) → named_locals (xs ++ ys) ≡ named_locals xs ++ named_locals ys
named-append xs ys = map-append (λ (l : LocalKind). l.name) xs ys

-- results
sub_insts : (is : List Inst) → Sub (named_locals (kinds_in is)) (flat_map (λ (i : Inst). result_names i.result) is)
sub_insts [] = Done
sub_insts (i ∷ is) =
    subst (λ ns. Sub ns (flat_map (λ (j : Inst). result_names j.result) (i ∷ is))) (sym (named-append (inst_local i) (kinds_in is)))
    (sub_append (sub_result i.result (kind_given i.op)) (sub_insts is))

-- those of blocks
sub_blocks : (bs : List Block) → Sub (map (λ (l : LocalKind). l.name) (flat_map (λ (b : Block). kinds_in b.insts) bs)) (flat_map block_names bs)
sub_blocks [] = Done
sub_blocks (b ∷ bs) =
    subst (λ ns. Sub ns (flat_map block_names (b ∷ bs))) (sym (map-append (λ (l : LocalKind). l.name) (kinds_in b.insts) (flat_map (λ (c : Block). kinds_in c.insts) bs)))
    (Skips b.label (sub_append (sub_insts b.insts) (sub_blocks bs)))

-- parameters
params_named : (ps : List Param) → map (λ (l : LocalKind). l.name) (map param_kind ps) ≡ map (λ (p : Param). p.name) ps
params_named [] = refl
params_named (p ∷ ps) = ap (λ ns. p.name ∷ ns) (params_named ps)

-- locals are among what a function defines
sub_locals : (f : Function) → Sub (map (λ (l : LocalKind). l.name) (locals_of f)) (local_names f)
sub_locals f =
    subst (λ ns. Sub ns (local_names f)) (sym (map-append (λ (l : LocalKind). l.name) (map param_kind f.params) (flat_map (λ (b : Block). kinds_in b.insts) f.blocks)))
    (sub_append (subst (λ ns. Sub ns (param_names f)) (sym (params_named f.params)) (sub_all (param_names f))) (sub_blocks f.blocks))

-- so are labels
sub_labels : (bs : List Block) → Sub (map (λ (b : Block). b.label) bs) (flat_map block_names bs)
sub_labels [] = Done
sub_labels (b ∷ bs) = Keeps b.label (sub_append (sub_none (flat_map (λ (i : Inst). result_names i.result) b.insts)) (sub_labels bs))

-- no local of a function stands twice
pub locals_differ : (f : Function) → repeated [] (local_names f) ≡ [] → repeated [] (map (λ (l : LocalKind). l.name) (locals_of f)) ≡ []
locals_differ f none = sub_repeat [] (sub_locals f) none

-- nor does a label
pub labels_differ : (f : Function) → repeated [] (local_names f) ≡ [] → repeated [] (label_names f) ≡ []
labels_differ f none = sub_repeat [] (sub_append (sub_none (param_names f)) (sub_labels f.blocks)) none

-- of an empty row both parts are empty
left_empty : {A : Type 0} (xs ys : List A) → xs ++ ys ≡ [] → xs ≡ []
left_empty [] ys e = refl
left_empty (x ∷ xs) ys e = not_empty x (xs ++ ys) e

right_empty : {A : Type 0} (xs ys : List A) → xs ++ ys ≡ [] → ys ≡ []
right_empty [] ys e = e
right_empty (x ∷ xs) ys e = not_empty x (xs ++ ys) e

-- no name comes of none
map_empty : {A B : Type 0} (f : A → B) (xs : List A) → map f xs ≡ [] → xs ≡ []
map_empty f [] e = refl
map_empty f (x ∷ xs) e = not_empty (f x) (map f xs) e

-- the locals of all functions differ
abbrev pub LocalsDiffer : List Function → Type 0
LocalsDiffer [] = Unit {0}
LocalsDiffer (f ∷ fs) = (repeated [] (local_names f) ≡ []) × LocalsDiffer fs

-- no name comes behind itself among those of functions, and their locals differ
in_functions : (before : List (List ℕ)) (fs : List Function) → repeated_in before fs ≡ [] → (repeated before (map (λ (f : Function). f.name) fs) ≡ []) × LocalsDiffer fs
in_functions before [] none = (refl, tt)
in_functions before (f ∷ fs) none =
    let names = map global_mark (repeated before (f.name ∷ [])) in
    let locals = map local_mark (repeated [] (local_names f)) in
    let front = left_empty (names ++ locals) (repeated_in (before ++ f.name ∷ []) fs) none in
    let go = in_functions (before ++ f.name ∷ []) fs (right_empty (names ++ locals) (repeated_in (before ++ f.name ∷ []) fs) none) in
    let name = fresh before f.name [] (map_empty global_mark (repeated before (f.name ∷ [])) (left_empty names locals front)) in
    (fresh_back before f.name (map (λ (g : Function). g.name) fs) (record { new = name.new; rest = go.0 }), (map_empty local_mark (repeated [] (local_names f)) (right_empty names locals front), go.1))

-- of a module no part of which doubles a name
module _ (m : Module) (none : doubled m ≡ []) where
  -- named types
  pub types_differ : repeated [] (type_names m) ≡ []
  types_differ = map_empty local_mark _ (left_empty _ _ (left_empty _ _ none))

  -- variables and declarations together
  front_differ : repeated [] (variable_names m ++ extern_names m) ≡ []
  front_differ = map_empty global_mark _ (right_empty (map local_mark (repeated [] (type_names m))) _ (left_empty _ _ none))

  -- behind them functions, with their locals
  functions_known : (repeated (variable_names m ++ extern_names m) (function_names m) ≡ []) × LocalsDiffer m.functions
  functions_known = in_functions (variable_names m ++ extern_names m) m.functions (right_empty (map local_mark (repeated [] (type_names m)) ++ map global_mark (repeated [] (variable_names m ++ extern_names m))) _ none)

  -- variables
  pub variables_differ : repeated [] (variable_names m) ≡ []
  variables_differ = sub_repeat [] (sub_front (variable_names m) (extern_names m)) front_differ
    where
      sub_front : (xs ys : List (List ℕ)) → Sub xs (xs ++ ys)
      sub_front [] ys = sub_none ys
      sub_front (x ∷ xs) ys = Keeps x (sub_front xs ys)

  -- declarations
  pub externs_differ : repeated [] (extern_names m) ≡ []
  externs_differ = sub_repeat [] (sub_append (sub_none (variable_names m)) (sub_all (extern_names m))) front_differ

  -- functions
  pub functions_differ : repeated [] (function_names m) ≡ []
  functions_differ = fewer_repeat [] (variable_names m ++ extern_names m) (function_names m) (λ name e. refl) functions_known.0

  -- the locals of each function
  pub locals_of_functions : LocalsDiffer m.functions
  locals_of_functions = functions_known.1

-- of the function of that number
pub locals_at : (fs : List Function) → LocalsDiffer fs → (k : ℕ) (d : Function) → k < length fs → repeated [] (local_names (get_or fs k d)) ≡ []
locals_at [] all k d inside = absurd (omega arith)
locals_at (f ∷ fs) all zero d inside = all.0
locals_at (f ∷ fs) all (suc k) d inside = locals_at fs all.1 k d (omega arith)
