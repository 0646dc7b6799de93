-- Blocks, functions, items and modules that a small text says are built.
use Rattle.std.proofs.Common.{◌≡◌, ℕ, suc, ◌+◌, ◌^◌, ◌<◌, ◌≤◌, Bool, true, false, List, [], ◌∷◌, ◌++◌, length, length-append, refl, sym, ◌∙◌, ap, subst, arith, Option, Some, None, flat_map}
use Rattle.std.specs.Prelude.{decimal, ◌&&◌, not, if◌then◌else◌}
use Rattle.std.specs.List.{list_all}
use Rattle.std.specs.Option.{option_to_list}
use Rattle.std.specs.Char.{digit_value}
use Rattle.std.specs.Str.Parse.{AllDigits}
use Rattle.std.proofs.lemmas.Bool.{and_from}
use Rattle.std.proofs.lemmas.Bool.Decides.{nat_tests}
use Rattle.std.proofs.lemmas.Fmt.{decimal_is_IsNumeral_wide, length-decimal-le_wide}
use Rattle.ir_core.specs.declared.ty.Ty.{Ty}
use Rattle.ir_core.specs.declared.ty.NamedTy.{NamedTy}
use Rattle.ir_core.specs.declared.init.Init.{Init}
use Rattle.ir_core.specs.declared.instruction.Inst.{Inst}
use Rattle.ir_core.specs.declared.instruction.Term.{Term}
use Rattle.ir_core.specs.declared.module.Block.{Block}
use Rattle.ir_core.specs.declared.module.Param.{Param}
use Rattle.ir_core.specs.declared.module.Extern.{Extern}
use Rattle.ir_core.specs.declared.module.Function.{Function}
use Rattle.ir_core.specs.declared.module.GlobalVar.{GlobalVar}
use Rattle.ir_core.specs.declared.module.Module.{Module}
use Rattle.ir_core.specs.Built.{built_all, is_name_byte, name_built, type_built, result_built, is_debug_name, named_built, global_built, extern_built, param_built, inst_built, end_built, block_built, blocks_built, function_built, init_built, IsBuilt}
use Rattle.ir_lex.specs.declared.token.Token.{Token}
use Rattle.ir_lex.specs.declared.token.TokenKind.{TokenKind}
use Rattle.ir_grammar.specs.Tokens.{kinds}
use Rattle.ir_grammar.specs.Grammar.{Derives}
use Rattle.ir_syntax.specs.declared.parameter.Written.{Written}
use Rattle.ir_syntax.specs.declared.parameter.NamedParams.{NamedParams}
use Rattle.ir_syntax.specs.declared.item.Item.{Item}
use Rattle.ir_syntax.specs.declared.item.Item.TheVariants as item_of
use Rattle.ir_syntax.specs.Parameters.{param, params, is_numbered, numbered_from, named_from, name_or}
use Rattle.ir_syntax.specs.Functions.{insts, block, labelled, body, define, declared, declare}
use Rattle.ir_syntax.specs.Items.{source_item, target_item, type_item, global_item, attributes_item, metadata_item, item}
use Rattle.ir_syntax.specs.ModuleText.{types_in, globals_in, externs_in, functions_in, module_text}
use Rattle.ir_syntax.proofs.FineInstructions.{item-inst}
use Rattle.ir_syntax.proofs.FineModule.{known-block, item-labelled, item-item}
use Rattle.ir_built.specs.SmallTexts.{AreOfSmallText}
use Rattle.ir_built.proofs.Small.{AreSmall, small_left, small_right, name_is, text_small}
use Rattle.ir_built.proofs.Always.{Always, Passes, given, with_such, with, with_any, before, one_of_two, perhaps, FewEach, Each, WhereSome, built_each, several, rows, some_tokens, some_each, commas}
use Rattle.ir_built.proofs.BuiltTypes.{local_always, global_always, label_always, plain_name, plain_global_always, type_always, struct_built, fields_always, result_always}
use Rattle.ir_built.proofs.BuiltValues.{declared_params_always, init_always}
use Rattle.ir_built.proofs.BuiltInstructions.{InstBuilt, inst_always, term_always}

-- decimal numbers as names
digit_byte : (c : ℕ) → digit_value c < 10 → is_name_byte c ≡ true
digit_byte c h = grind (arith, nat_tests)

digit_bytes : (ds : List ℕ) → AllDigits 10 ds → list_all is_name_byte ds ≡ true
digit_bytes [] h = refl
digit_bytes (d ∷ ds) h = and_from (is_name_byte d) (list_all is_name_byte ds) (digit_byte d h.0) (digit_bytes ds h.1)

decimal_name : (n : ℕ) → n < 10 ^ 38 → name_built (decimal n) ≡ true
decimal_name n h =
    let numeral = decimal_is_IsNumeral_wide n (omega arith) in
    let few = length-decimal-le_wide 38 n (omega arith) h (omega arith) in
    name_is (decimal n) (let f = numeral.0.0 in omega arith) (omega arith) (digit_bytes (decimal n) numeral.0.1)

abbrev IsName : List ℕ → Type 0
IsName name = name_built name ≡ true

name_of_some : (o : Option (List ℕ)) (other : List ℕ) → WhereSome IsName o → IsName other → IsName (name_or o other)
name_of_some None other h k = k
name_of_some (Some name) other h k = h

-- rows of which some are kept
length-flat_map-le : {A B : Type 0} (f : A → List B) → ((x : A) → length (f x) ≤ 1) → (xs : List A) → length (flat_map f xs) ≤ length xs
length-flat_map-le f one [] = omega arith
length-flat_map-le f one (x ∷ xs) =
    let a = one x in let b = length-flat_map-le f one xs in let parts = length-append (f x) (flat_map f xs) in omega arith

each-append : {A : Type 0} (P : A → Type 0) (xs ys : List A) → Each P xs → Each P ys → Each P (xs ++ ys)
each-append P [] ys h k = k
each-append P (x ∷ xs) ys h k = (h.0, each-append P xs ys h.1 k)

each-flat_map : {A B : Type 0} (f : A → List B) (P : A → Type 0) (Q : B → Type 0) → ((x : A) → P x → Each Q (f x)) → (xs : List A) → Each P xs → Each Q (flat_map f xs)
each-flat_map f P Q go [] h = tt
each-flat_map f P Q go (x ∷ xs) h = each-append Q (f x) (flat_map f xs) (go x h.0) (each-flat_map f P Q go xs h.1)

kept_few : {A B : Type 0} (f : A → List B) (P : A → Type 0) (Q : B → Type 0) → ((x : A) → length (f x) ≤ 1) → ((x : A) → P x → Each Q (f x)) → (xs : List A) → FewEach P xs → FewEach Q (flat_map f xs)
kept_few f P Q one go xs h =
    let few : length xs < 2 ^ 32 = h.0 in let less = length-flat_map-le f one xs in (omega arith, each-flat_map f P Q go xs h.1)

-- instructions and blocks
present_few : (x : Option Inst) → length (option_to_list x) ≤ 1
present_few None = omega arith
present_few (Some i) = omega arith

present_each : (x : Option Inst) → WhereSome InstBuilt x → Each InstBuilt (option_to_list x)
present_each None h = tt
present_each (Some i) h = (h, tt)

insts_always : Passes insts (built_all inst_built)
unfolding insts
insts_always =
    with_such (FewEach (WhereSome InstBuilt))
    (given _ (λ is h. built_each inst_built (flat_map option_to_list is) (kept_few option_to_list (WhereSome InstBuilt) InstBuilt present_few present_each is h)))
    (several item-inst.some inst_always)

abbrev BlockBuilt : Block → Type 0
BlockBuilt b = block_built b ≡ true

-- a block, by its name
abbrev BlockBy : (List ℕ → Block) → Type 0
BlockBy f = (name : List ℕ) → IsName name → BlockBuilt (f name)

block_of : (is : List Inst) → built_all inst_built is ≡ true → (t : Term) → end_built t ≡ true → (name : List ℕ) → IsName name → BlockBuilt (record { label = name; insts = is; end = t })
block_of is h t k name n = and_from (name_built name) (built_all inst_built is && end_built t) n (and_from (built_all inst_built is) (end_built t) h k)

block_always : Always block BlockBy
unfolding block
block_always = with end_built (with (built_all inst_built) (given _ block_of) insts_always) term_always

labelled_always : Always labelled BlockBuilt
unfolding labelled
labelled_always = with_such BlockBy (with name_built (given _ (λ l h b k. k l h)) label_always) block_always

-- the blocks of a function, by the name of a first one without a label
abbrev BlocksBy : (List ℕ → List Block) → Type 0
BlocksBy f = (name : List ℕ) → IsName name → blocks_built (f name) ≡ true

body_always : Always body BlocksBy
unfolding body
body_always = record { holds = holds }
  where
    holds : (v : List ℕ → List Block) (ts : List TokenKind) → AreSmall ts → Derives body v ts → BlocksBy v
    holds v ts small (f, bs, front, rest, cut, (k, b, left, right, parts, (j, o, none, first, here, (j_is, empty), named, k_is), first_block, f_is), more, is) name n =
        let before_rest = small_left ts front rest cut small in
        let r = rows item-labelled.some labelled_always bs rest (small_right ts front rest cut small) more in
        let l = ap length parts in
        let sum = length-append left right in
        let one : 0 < length right = some_tokens block b right known-block.some first_block in
        let label = (perhaps label_always).holds o first (small_right left none first here (small_left front left right parts before_rest)) named in
        let p = block_always.holds b right (small_right front left right parts before_rest) first_block in
        let few : length bs ≤ length rest = r.0 in
        let all = built_each block_built (b (name_or o name) ∷ bs) (some_each BlockBuilt (b (name_or o name)) bs front rest ts cut small (omega arith) few (p (name_or o name) (name_of_some o name label n)) r.1) in
        let same : v ≡ λ (m : List ℕ). b (name_or o m) ∷ bs = is ∙ ap (λ z. z bs) f_is ∙ ap (λ z. z b bs) k_is ∙ ap (λ z. z o b bs) j_is in
        subst (λ (z : List ℕ → List Block). blocks_built (z name) ≡ true) (sym same) all

-- parameters
abbrev ParamBuilt : Param → Type 0
ParamBuilt p = param_built p ≡ true

abbrev WrittenBuilt : Written → Type 0
WrittenBuilt p = (type_built p.ty ≡ true) × WhereSome IsName p.name

param_always : Always param WrittenBuilt
unfolding param
param_always = with_such (WhereSome IsName) (before (with type_built (given _ (λ t h n k. (h, k))) type_always)) (perhaps local_always)

next_few : (p : Written) (n : ℕ) → (if is_numbered p.name then suc n else n) ≤ n + 1
next_few p n = by (is_numbered p.name)
  where
    by : (b : Bool) → (if b then suc n else n) ≤ n + 1
    by true = omega arith
    by false = omega arith

numbered_few : (n : ℕ) (ps : List Written) → numbered_from n ps ≤ n + length ps
numbered_few n [] = omega arith
numbered_few n (p ∷ ps) = let a = next_few p n in let b = numbered_few (if is_numbered p.name then suc n else n) ps in omega arith

length-named_from : (n : ℕ) (ps : List Written) → length (named_from n ps) ≡ length ps
length-named_from n [] = refl
length-named_from n (p ∷ ps) = ap suc (length-named_from (if is_numbered p.name then suc n else n) ps)

named_each : (n : ℕ) (ps : List Written) → n + length ps < 2 ^ 33 → Each WrittenBuilt ps → Each ParamBuilt (named_from n ps)
named_each n [] few h = tt
named_each n (p ∷ ps) few h =
    let a = next_few p n in (
      and_from (type_built p.ty) (name_built (name_or p.name (decimal n))) h.0.0 (name_of_some p.name (decimal n) h.0.1 (decimal_name n (omega arith))),
      named_each (if is_numbered p.name then suc n else n) ps (omega arith) h.1,
    )

abbrev ParamsBuilt : NamedParams → Type 0
ParamsBuilt ps = (built_all param_built ps.named ≡ true) × (ps.numbered < 2 ^ 32)

naming_built : (ps : List Written) → FewEach WrittenBuilt ps → ParamsBuilt (record { named = named_from 0 ps; numbered = numbered_from 0 ps })
naming_built ps h =
    let few : length ps < 2 ^ 32 = h.0 in
    let count = numbered_few 0 ps in
    let same = length-named_from 0 ps in
    (built_each param_built (named_from 0 ps) (omega arith, named_each 0 ps (omega arith) h.1), omega arith)

params_always : Always params ParamsBuilt
unfolding params
params_always = with_such (FewEach WrittenBuilt) (before (given _ naming_built)) (commas 41 param_always)

-- functions and declarations
abbrev FunctionBuilt : Function → Type 0
FunctionBuilt f = function_built f ≡ true

function_of : (t : Ty) → result_built t ≡ true → (n : List ℕ) → IsName n → (ps : NamedParams) → ParamsBuilt ps → (bs : List ℕ → List Block) → BlocksBy bs
    → FunctionBuilt (record { name = n; ret = t; params = ps.named; blocks = bs (decimal ps.numbered) })
function_of t h n k ps p bs b =
    let few : ps.numbered < 2 ^ 32 = p.1 in
    let all = b (decimal ps.numbered) (decimal_name ps.numbered (omega arith)) in
    and_from (name_built n && result_built t) (built_all param_built ps.named && blocks_built (bs (decimal ps.numbered))) (and_from (name_built n) (result_built t) k h)
    (and_from (built_all param_built ps.named) (blocks_built (bs (decimal ps.numbered))) p.0 all)

define_always : Always define FunctionBuilt
unfolding define
define_always =
    before
    (with_such BlocksBy
    (before
    (before
    (with_such ParamsBuilt (with name_built (with result_built (before (before (before (given _ function_of)))) result_always) global_always) params_always)))
    body_always)

-- what holds of an item
abbrev ItemBuilt : Item → Type 0
ItemBuilt (item_of.Type t) = named_built t ≡ true
ItemBuilt (item_of.Global g) = global_built g ≡ true
ItemBuilt (item_of.Extern e) = extern_built e ≡ true
ItemBuilt (item_of.Function f) = function_built f ≡ true
ItemBuilt item_of.Nothing = Unit {0}

-- a declaration, by its type
abbrev DeclaredBy : (Ty → Item) → Type 0
DeclaredBy f = (t : Ty) → result_built t ≡ true → ItemBuilt (f t)

extern_of : (n : List ℕ) → plain_name n ≡ true → (ts : List Ty) → built_all type_built ts ≡ true → DeclaredBy (λ t. item_of.Extern (record { name = n; ret = t; params = ts }))
extern_of n h ts k t r = and_from (name_built n && not (is_debug_name n)) (result_built t && built_all type_built ts) h (and_from (result_built t) (built_all type_built ts) r k)

declared_always : Always declared DeclaredBy
unfolding declared
declared_always =
    one_of_two (before (before (given _ (λ t h. tt))))
    (with (built_all type_built) (with plain_name (given _ extern_of) plain_global_always) declared_params_always)

declare_always : Always declare ItemBuilt
unfolding declare
declare_always =
    before (with_such DeclaredBy (with result_built (before (before (before (before (given _ (λ t h d k. k t h)))))) result_always) declared_always)

-- items
source_always : Always source_item ItemBuilt
unfolding source_item
source_always = before (before (before (given _ tt)))

target_always : Always target_item ItemBuilt
unfolding target_item
target_always = before (before (before (before (given _ tt))))

type_of : (n : List ℕ) → IsName n → (t : Ty) → struct_built t ≡ true → ItemBuilt (item_of.Type (record { name = n; fields = t }))
type_of n h t k = and_from (name_built n) (struct_built t) h k

type_item_always : Always type_item ItemBuilt
unfolding type_item
type_item_always = with struct_built (before (before (with name_built (given _ type_of) local_always))) fields_always

global_of : (n : List ℕ) → IsName n → (c : Bool) → (t : Ty) → type_built t ≡ true → (i : Init) → init_built i ≡ true → ItemBuilt (item_of.Global (record { name = n; constant = c; ty = t; init = i }))
global_of n h c t k i l = and_from (name_built n) (type_built t && init_built i) h (and_from (type_built t) (init_built i) k l)

global_item_always : Always global_item ItemBuilt
unfolding global_item
global_item_always = before (with init_built (with type_built (with_any (before (before (with name_built (given _ global_of) global_always)))) type_always) init_always)

attributes_always : Always attributes_item ItemBuilt
unfolding attributes_item
attributes_always = before (before (before (before (given _ tt))))

metadata_always : Always metadata_item ItemBuilt
unfolding metadata_item
metadata_always = before (before (before (before (given _ tt))))

item_always : Always item ItemBuilt
unfolding item
item_always =
    one_of_two source_always
    (one_of_two target_always
    (one_of_two type_item_always
    (one_of_two global_item_always
    (one_of_two declare_always
    (one_of_two (with_such FunctionBuilt (given item_of.Function (λ f h. h)) define_always) (one_of_two attributes_always metadata_always))))))

-- a module's parts
types_few : (i : Item) → length (types_in i) ≤ 1
types_few (item_of.Type t) = omega arith
types_few (item_of.Global g) = omega arith
types_few (item_of.Extern e) = omega arith
types_few (item_of.Function f) = omega arith
types_few item_of.Nothing = omega arith

globals_few : (i : Item) → length (globals_in i) ≤ 1
globals_few (item_of.Type t) = omega arith
globals_few (item_of.Global g) = omega arith
globals_few (item_of.Extern e) = omega arith
globals_few (item_of.Function f) = omega arith
globals_few item_of.Nothing = omega arith

externs_few : (i : Item) → length (externs_in i) ≤ 1
externs_few (item_of.Type t) = omega arith
externs_few (item_of.Global g) = omega arith
externs_few (item_of.Extern e) = omega arith
externs_few (item_of.Function f) = omega arith
externs_few item_of.Nothing = omega arith

functions_few : (i : Item) → length (functions_in i) ≤ 1
functions_few (item_of.Type t) = omega arith
functions_few (item_of.Global g) = omega arith
functions_few (item_of.Extern e) = omega arith
functions_few (item_of.Function f) = omega arith
functions_few item_of.Nothing = omega arith

abbrev NamedBuilt : NamedTy → Type 0
NamedBuilt t = named_built t ≡ true

abbrev GlobalBuilt : GlobalVar → Type 0
GlobalBuilt g = global_built g ≡ true

abbrev ExternBuilt : Extern → Type 0
ExternBuilt e = extern_built e ≡ true

types_each : (i : Item) → ItemBuilt i → Each NamedBuilt (types_in i)
types_each (item_of.Type t) h = (h, tt)
types_each (item_of.Global g) h = tt
types_each (item_of.Extern e) h = tt
types_each (item_of.Function f) h = tt
types_each item_of.Nothing h = tt

globals_each : (i : Item) → ItemBuilt i → Each GlobalBuilt (globals_in i)
globals_each (item_of.Type t) h = tt
globals_each (item_of.Global g) h = (h, tt)
globals_each (item_of.Extern e) h = tt
globals_each (item_of.Function f) h = tt
globals_each item_of.Nothing h = tt

externs_each : (i : Item) → ItemBuilt i → Each ExternBuilt (externs_in i)
externs_each (item_of.Type t) h = tt
externs_each (item_of.Global g) h = tt
externs_each (item_of.Extern e) h = (h, tt)
externs_each (item_of.Function f) h = tt
externs_each item_of.Nothing h = tt

functions_each : (i : Item) → ItemBuilt i → Each FunctionBuilt (functions_in i)
functions_each (item_of.Type t) h = tt
functions_each (item_of.Global g) h = tt
functions_each (item_of.Extern e) h = tt
functions_each (item_of.Function f) h = (h, tt)
functions_each item_of.Nothing h = tt

module_of_items : (is : List Item) → FewEach ItemBuilt is
    → IsBuilt (record { types = flat_map types_in is; globals = flat_map globals_in is; externs = flat_map externs_in is; functions = flat_map functions_in is })
module_of_items is h =
    let a = built_each named_built (flat_map types_in is) (kept_few types_in ItemBuilt NamedBuilt types_few types_each is h) in
    let b = built_each global_built (flat_map globals_in is) (kept_few globals_in ItemBuilt GlobalBuilt globals_few globals_each is h) in
    let c = built_each extern_built (flat_map externs_in is) (kept_few externs_in ItemBuilt ExternBuilt externs_few externs_each is h) in
    let d = built_each function_built (flat_map functions_in is) (kept_few functions_in ItemBuilt FunctionBuilt functions_few functions_each is h) in
    and_from (built_all named_built (flat_map types_in is) && built_all global_built (flat_map globals_in is)) (built_all extern_built (flat_map externs_in is) && built_all function_built (flat_map functions_in is))
    (and_from (built_all named_built (flat_map types_in is)) (built_all global_built (flat_map globals_in is)) a b)
    (and_from (built_all extern_built (flat_map externs_in is)) (built_all function_built (flat_map functions_in is)) c d)

module_always : Always module_text IsBuilt
unfolding module_text
module_always = with_such (FewEach ItemBuilt) (given _ module_of_items) (several item-item.some item_always)

-- what a text of fewer than 2^32 bytes says is built
pub small_built : (m : Module) (tokens : List Token) → Derives module_text m (kinds tokens) → AreOfSmallText tokens → IsBuilt m
small_built m tokens d (text, bytes, few, scans) = module_always.holds m (kinds tokens) (text_small text tokens scans few bytes) d
