-- Rows of items, as they make up a module.
use Rattle.std.proofs.Common.{◌≡◌, false, List, [], ◌∷◌, ◌++◌, refl, sym, ◌∙◌, ap, append_assoc, append-nil}
use Rattle.std.specs.Prelude.{codes, ◌||◌, flat_map}
use Rattle.ir_lex.specs.declared.token.Token.{Token}
use Rattle.ir_lex.specs.declared.token.TokenKind.{TokenKind}
use Rattle.ir_core.specs.declared.ty.NamedTy.{NamedTy}
use Rattle.ir_core.specs.declared.module.GlobalVar.{GlobalVar}
use Rattle.ir_core.specs.declared.module.Extern.{Extern}
use Rattle.ir_core.specs.declared.module.Function.{Function}
use Rattle.ir_core.specs.declared.module.Module.{Module}
use Rattle.ir_grammar.specs.Tokens.{word, local, global, debug_global, meta, meta_number, starts, kinds}
use Rattle.ir_grammar.specs.Grammar.{many}
use Rattle.ir_grammar.specs.Reading.{first, Read, done, fault, ◌>>=◌, read, put_before}
use Rattle.ir_grammar.proofs.Sets.{starts-append}
use Rattle.ir_grammar.proofs.Rows.{more, put_none, row_end}
use Rattle.ir_syntax.specs.declared.item.Item.{Item}
use Rattle.ir_syntax.specs.Words.{words_from}
use Rattle.ir_syntax.specs.Functions.{define, declare}
use Rattle.ir_syntax.specs.Items.{source_item, target_item, type_item, global_item, attributes_item, item}
use Rattle.ir_syntax.specs.ModuleText.{types_in, globals_in, externs_in, functions_in, module_of, module_text}
use Rattle.ir_syntax.proofs.FineModule.{known-item, item-item}
use Rattle.ir_parse.specs.Joined.{joined, put_items}

-- what the items begin with, one kind after another
pub first_source : first source_item ≡ word (codes "source_filename") ∷ []
unfolding source_item
first_source = refl

pub first_target : first target_item ≡ word (codes "target") ∷ []
unfolding target_item
first_target = refl

pub first_type : first type_item ≡ local ∷ []
unfolding type_item
first_type = refl

pub first_global : first global_item ≡ global ∷ debug_global ∷ []
unfolding global_item
first_global = refl

pub first_declare : first declare ≡ word (codes "declare") ∷ []
unfolding declare
first_declare = refl

pub first_define : first define ≡ word (codes "define") ∷ []
unfolding define
first_define = refl

pub first_attributes : first attributes_item ≡ word (codes "attributes") ∷ []
unfolding attributes_item
first_attributes = refl

-- what each kind of item begins with
pub ruleset firsts = (first_source, first_target, first_type, first_global, first_declare, first_define, first_attributes)

-- what items begin with
pub item_starts : (ts : List TokenKind)
    → starts (first item) ts
    ≡ (starts (words_from [] (codes "source_filename target")) ts
    || (starts (local ∷ []) ts || (starts (global ∷ debug_global ∷ []) ts || (starts (words_from [] (codes "declare define attributes")) ts || starts (meta ∷ meta_number ∷ []) ts))))
item_starts ts =
    let ws = words_from [] (codes "declare define attributes") in
    let metas = meta ∷ meta_number ∷ [] in
    let globals = global ∷ debug_global ∷ [] in
    ap (λ ss. starts ss ts) known-item.first_is
    ∙ (starts-append (words_from [] (codes "source_filename target")) (local ∷ globals ++ (ws ++ metas)) ts
    ∙ ap (λ b. starts (words_from [] (codes "source_filename target")) ts || b)
    (starts-append (local ∷ []) (globals ++ (ws ++ metas)) ts
    ∙ ap (λ b. starts (local ∷ []) ts || b) (starts-append globals (ws ++ metas) ts ∙ ap (λ b. starts globals ts || b) (starts-append ws metas ts))))

-- one part more, behind others
behind_parts : {A : Type 0} (xs ys zs : List A) → xs ++ (ys ++ zs) ≡ (xs ++ (ys ++ [])) ++ zs
behind_parts xs ys zs = rw (append-nil ys) (sym (append_assoc xs ys zs))

-- a module of its parts
abbrev of_parts : List NamedTy → List GlobalVar → List Extern → List Function → Module
of_parts types globals externs functions = record { types = types; globals = globals; externs = externs; functions = functions }

-- modules with equal parts are equal
same_module : (a b : List NamedTy) (c d : List GlobalVar) (e f : List Extern) (g h : List Function) → a ≡ b → c ≡ d → e ≡ f → g ≡ h → of_parts a c e g ≡ of_parts b d f h
same_module a b c d e f g h p q r s = cc

-- an item in front of a row is one behind the module
items_step : (m : Module) (i : Item) (r : Read (List Item)) → put_items m (put_before (i ∷ []) r) ≡ put_items (joined m (module_of (i ∷ []))) r
items_step m i (done is ts) =
    ap (λ (x : Module). done x ts)
    (same_module _ _ _ _ _ _ _ _ (behind_parts m.types (types_in i) (flat_map types_in is)) (behind_parts m.globals (globals_in i) (flat_map globals_in is))
    (behind_parts m.externs (externs_in i) (flat_map externs_in is)) (behind_parts m.functions (functions_in i) (flat_map functions_in is)))
items_step m i (fault left) = refl

-- one more
pub items_more : (m longer : Module) (i : Item) (ts us : List Token) → read item (kinds ts) ≡ done i (kinds us) → longer ≡ joined m (module_of (i ∷ []))
    → put_items longer (read (many item) (kinds us)) ≡ put_items m (read (many item) (kinds ts))
items_more m longer i ts us one e =
    let row = more item item-item ts us i one [] (i ∷ []) refl in
    sym (ap (put_items m) (sym (row ∙ put_none (read (many item) (kinds ts)))) ∙ items_step m i (read (many item) (kinds us)) ∙ ap (λ (x : Module). put_items x (read (many item) (kinds us))) (sym e))

-- none is next
pub items_end : (m : Module) (ts : List TokenKind) → starts (first item) ts ≡ false → put_items m (read (many item) ts) ≡ done m ts
items_end m ts e =
    ap (put_items m) (sym (put_none (read (many item) ts)) ∙ row_end item item-item [] ts e)
    ∙ ap (λ (x : Module). done x ts) (same_module _ _ _ _ _ _ _ _ (append-nil m.types) (append-nil m.globals) (append-nil m.externs) (append-nil m.functions))

-- nothing is before a row that has just begun
pub items_none : (ts : List TokenKind) → put_items (record { types = []; globals = []; externs = []; functions = [] }) (read (many item) ts) ≡ read module_text ts
unfolding module_text
items_none ts = by_row (read (many item) ts)
  where
    by_row : (r : Read (List Item)) → put_items (record { types = []; globals = []; externs = []; functions = [] }) r ≡ r >>= λ is us. done (module_of is) us
    by_row (done is us) = refl
    by_row (fault left) = refl
