-- The text of a built module reads back to the module.
use Rattle.std.proofs.Common.{◌≡◌, ℕ, List, [], ◌∷◌, ◌++◌, refl, sym, ap, ◌∙◌, subst, map, flat_map}
use Rattle.std.specs.Prelude.{◌&&◌}
use Rattle.std.proofs.lemmas.Bool.{and_parts}
use Rattle.std.proofs.lemmas.List.{append-nil}
use Rattle.std.proofs.lemmas.Grind.{flat_map-append}
use Rattle.std.proofs.Math.Logic.{∥∥₁_elim}
use Rattle.std.proofs.Props.{props}
use Rattle.ir_core.specs.Refusals.{IsValid}
use Rattle.ir_core.specs.declared.ty.NamedTy.{NamedTy}
use Rattle.ir_core.specs.declared.module.GlobalVar.{GlobalVar}
use Rattle.ir_core.specs.declared.module.Extern.{Extern}
use Rattle.ir_core.specs.declared.module.Function.{Function}
use Rattle.ir_core.specs.declared.module.Module.{Module}
use Rattle.ir_core.specs.Built.{built_all, named_built, global_built, extern_built, function_built, IsBuilt}
use Rattle.ir_grammar.specs.Grammar.{Derives}
use Rattle.ir_syntax.specs.declared.item.Item.{Item}
use Rattle.ir_syntax.specs.declared.item.Item.TheVariants as item_of
use Rattle.ir_syntax.specs.Items.{item}
use Rattle.ir_syntax.specs.ModuleText.{types_in, globals_in, externs_in, functions_in, module_of, module_text}
use Rattle.ir_print.specs.Canonical.{named_type_text, global_line, extern_text, function_text, canonical_text}
use Rattle.ir_print.specs.ReadsBack.{ReadsBack}
use Rattle.ir_print.proofs.Scanning.{whole}
use Rattle.ir_print.proofs.Derivations.{Shut, given, value_shut}
use Rattle.ir_print.proofs.Rows.{each_built, row_made, rows_shut}
use Rattle.ir_print.proofs.ItemsRead.{type_item_reads, global_item_reads, extern_item_reads, function_item_reads}

-- items of one kind among them, and of another kind
kept : {X : Type 0} (pick : Item → List X) (make : X → Item) → ((x : X) → pick (make x) ≡ x ∷ []) → (xs : List X) → flat_map pick (map make xs) ≡ xs
kept pick make one [] = refl
kept pick make one (x ∷ xs) = ap (λ t. t ++ flat_map pick (map make xs)) (one x) ∙ ap (λ t. x ∷ t) (kept pick make one xs)

passed : {X Y : Type 0} (pick : Item → List X) (make : Y → Item) → ((y : Y) → pick (make y) ≡ []) → (ys : List Y) → flat_map pick (map make ys) ≡ []
passed pick make none [] = refl
passed pick make none (y ∷ ys) = ap (λ t. t ++ flat_map pick (map make ys)) (none y) ∙ passed pick make none ys

-- the items of a module, in the order of its text
abbrev items : Module → List Item
items m = map item_of.Type m.types ++ map item_of.Global m.globals ++ map item_of.Extern m.externs ++ map item_of.Function m.functions

-- what is picked from four rows
picked : {X : Type 0} (pick : Item → List X) (m : Module) → flat_map pick (items m) ≡ flat_map pick (map item_of.Type m.types) ++ flat_map pick (map item_of.Global m.globals) ++ flat_map pick (map item_of.Extern m.externs) ++ flat_map pick (map item_of.Function m.functions)
picked pick m =
    let a : List Item = map item_of.Type m.types in
    let b : List Item = map item_of.Global m.globals in
    let c : List Item = map item_of.Extern m.externs in
    let d : List Item = map item_of.Function m.functions in
    flat_map-append pick (a ++ b ++ c) d ∙ ap (λ t. t ++ flat_map pick d) (flat_map-append pick (a ++ b) c ∙ ap (λ t. t ++ flat_map pick c) (flat_map-append pick a b))

-- four rows, of which one has something
only_first : {X : Type 0} (a b c d xs : List X) → a ≡ xs → b ≡ [] → c ≡ [] → d ≡ [] → a ++ b ++ c ++ d ≡ xs
only_first a b c d xs p q r s = ap (λ t. a ++ b ++ c ++ t) s ∙ append-nil (a ++ b ++ c) ∙ ap (λ t. a ++ b ++ t) r ∙ append-nil (a ++ b) ∙ ap (λ t. a ++ t) q ∙ append-nil a ∙ p

only_second : {X : Type 0} (a b c d xs : List X) → a ≡ [] → b ≡ xs → c ≡ [] → d ≡ [] → a ++ b ++ c ++ d ≡ xs
only_second a b c d xs p q r s = ap (λ t. t ++ b ++ c ++ d) p ∙ ap (λ t. b ++ c ++ t) s ∙ append-nil (b ++ c) ∙ ap (λ t. b ++ t) r ∙ append-nil b ∙ q

only_third : {X : Type 0} (a b c d xs : List X) → a ≡ [] → b ≡ [] → c ≡ xs → d ≡ [] → a ++ b ++ c ++ d ≡ xs
only_third a b c d xs p q r s = ap (λ t. t ++ b ++ c ++ d) p ∙ ap (λ t. t ++ c ++ d) q ∙ ap (λ t. c ++ t) s ∙ append-nil c ∙ r

only_fourth : {X : Type 0} (a b c d xs : List X) → a ≡ [] → b ≡ [] → c ≡ [] → d ≡ xs → a ++ b ++ c ++ d ≡ xs
only_fourth a b c d xs p q r s = ap (λ t. t ++ b ++ c ++ d) p ∙ ap (λ t. t ++ c ++ d) q ∙ ap (λ t. t ++ d) r ∙ s

-- each part of the module is there
same_types : (m : Module) → flat_map types_in (items m) ≡ m.types
same_types m =
    picked types_in m
    ∙ only_first _ _ _ _ m.types (kept types_in item_of.Type (λ x. refl) m.types) (passed types_in item_of.Global (λ x. refl) m.globals) (passed types_in item_of.Extern (λ x. refl) m.externs) (passed types_in item_of.Function (λ x. refl) m.functions)

same_globals : (m : Module) → flat_map globals_in (items m) ≡ m.globals
same_globals m =
    picked globals_in m
    ∙ only_second _ _ _ _ m.globals (passed globals_in item_of.Type (λ x. refl) m.types) (kept globals_in item_of.Global (λ x. refl) m.globals) (passed globals_in item_of.Extern (λ x. refl) m.externs) (passed globals_in item_of.Function (λ x. refl) m.functions)

same_externs : (m : Module) → flat_map externs_in (items m) ≡ m.externs
same_externs m =
    picked externs_in m
    ∙ only_third _ _ _ _ m.externs (passed externs_in item_of.Type (λ x. refl) m.types) (passed externs_in item_of.Global (λ x. refl) m.globals) (kept externs_in item_of.Extern (λ x. refl) m.externs) (passed externs_in item_of.Function (λ x. refl) m.functions)

same_functions : (m : Module) → flat_map functions_in (items m) ≡ m.functions
same_functions m =
    picked functions_in m
    ∙ only_fourth _ _ _ _ m.functions (passed functions_in item_of.Type (λ x. refl) m.types) (passed functions_in item_of.Global (λ x. refl) m.globals) (passed functions_in item_of.Extern (λ x. refl) m.externs) (kept functions_in item_of.Function (λ x. refl) m.functions)

abbrev of_parts : List NamedTy → List GlobalVar → List Extern → List Function → Module
of_parts a b c d = record { types = a; globals = b; externs = c; functions = d }

same_module : (m : Module) → module_of (items m) ≡ m
same_module m =
    ap (λ a. of_parts a (flat_map globals_in (items m)) (flat_map externs_in (items m)) (flat_map functions_in (items m))) (same_types m)
    ∙ ap (λ b. of_parts m.types b (flat_map externs_in (items m)) (flat_map functions_in (items m))) (same_globals m)
    ∙ ap (λ c. of_parts m.types m.globals c (flat_map functions_in (items m))) (same_externs m)
    ∙ ap (λ d. of_parts m.types m.globals m.externs d) (same_functions m)

-- the module's text
module_shut : (m : Module) → IsBuilt m → Shut module_text m (canonical_text m)
unfolding module_text
module_shut m h =
    let parts = and_parts (built_all named_built m.types && built_all global_built m.globals) (built_all extern_built m.externs && built_all function_built m.functions) h in
    let front = and_parts (built_all named_built m.types) (built_all global_built m.globals) parts.0 in
    let back = and_parts (built_all extern_built m.externs) (built_all function_built m.functions) parts.1 in
    let a = row_made item item_of.Type named_type_text named_built type_item_reads m.types (each_built named_built m.types front.0) in
    let b = row_made item item_of.Global global_line global_built global_item_reads m.globals (each_built global_built m.globals front.1) in
    let c = row_made item item_of.Extern extern_text extern_built extern_item_reads m.externs (each_built extern_built m.externs back.0) in
    let d = row_made item item_of.Function function_text function_built function_item_reads m.functions (each_built function_built m.functions back.1) in
    subst (λ v. Shut module_text v (canonical_text m)) (same_module m) (value_shut (given module_of) (rows_shut (rows_shut (rows_shut a b) c) d))

pub reads_back : (m : Module) → IsBuilt m → ReadsBack (canonical_text m) m
reads_back m h =
    let s = module_shut m h in
    let t = whole (canonical_text m) s.ks s.scan in
    record { tokens = t.tokens; scanned = t.scans; derived = subst (λ ks. Derives module_text m ks) (sym t.kinds) s.derives }

-- that of a valid module, which is known to be valid and no more
pub valid_reads_back : (m : Module) (text : List ℕ) → ∥ IsValid m ∥₁ → text ≡ canonical_text m → ReadsBack text m
valid_reads_back m text known is = subst (λ t. ReadsBack t m) (sym is) (reads_back m (∥∥₁_elim known (hlevel props) (λ v. v.built)))
