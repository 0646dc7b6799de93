-- The `@` names that are mentioned, one row of mentions behind another.
use Rattle.std.proofs.Common.{◌≡◌, ℕ, ◌+◌, ◌<◌, Bool, true, false, List, [], ◌∷◌, ◌++◌, length, get_or, take, map, refl, ap, sym, ◌∙◌, subst, if◌then◌else◌}
use Rattle.std.specs.Prelude.{◌||◌, ◌&&◌, not}
use Rattle.std.specs.List.{flat_map, list_any}
use Rattle.std.proofs.lemmas.List.{map-append}
use Rattle.std.proofs.lemmas.List.Folds.{list_any-append}
use Rattle.ir_core.specs.declared.module.Extern.{Extern}
use Rattle.ir_core.specs.declared.module.Function.{Function}
use Rattle.ir_core.specs.declared.module.Module.{Module}
use Rattle.ir_core.specs.Names.{same_name}
use Rattle.ir_core.specs.Mentions.{Mention, OfCallee, OfSymbol, of_function, mentions}
use Rattle.ir_core.specs.Definitions.{global_mark, is_among}
use Rattle.ir_core.specs.Valid.{extern_fits}
use Rattle.ir_core.specs.Refusals.{is_of_symbol, wrong_declaration}
use Rattle.ir_core.proofs.LoopLaws.{take_item, flat_take}
use Rattle.ir_types.specs.Flow.{with_name}
use Rattle.ir_types.proofs.FlowLaws.{with_any}
use Rattle.ir_names.specs.declared.mention.Mention.{Mention as Lent}
use Rattle.ir_names.specs.Seen.{seen, all_seen}
use Rattle.ir_names.specs.Outer.{Uses, unfit}

-- nothing behind what is there
or_false : (b : Bool) → b ≡ (b || false)
or_false true = refl
or_false false = refl

-- three parts
or_assoc : (a b c : Bool) → ((a || b) || c) ≡ (a || (b || c))
or_assoc true b c = refl
or_assoc false b c = refl

-- no mention
pub uses_none : (names : List (List ℕ)) → Uses names names []
uses_none names name = or_false (is_among names name)

-- one row behind another
pub uses_more : (a b c : List (List ℕ)) (xs ys : List Mention) → Uses a b xs → Uses b c ys → Uses a c (xs ++ ys)
uses_more a b c xs ys l m name =
    m name ∙ ap (λ t. t || list_any (is_of_symbol name) ys) (l name) ∙ or_assoc (is_among a name) (list_any (is_of_symbol name) xs) (list_any (is_of_symbol name) ys)
    ∙ ap (λ t. is_among a name || t) (sym (list_any-append (is_of_symbol name) xs ys))

-- a callee
pub uses_callee : (a b : List (List ℕ)) (n : List ℕ) → b ≡ with_name a n → Uses a b (OfCallee n ∷ [])
uses_callee a b n is name = ap (λ s. is_among s name) is ∙ with_any (same_name name) a n ∙ ap (λ t. is_among a name || t) (or_false (same_name name n))

-- one mention more
pub uses_mention : (ms : List Lent) (k : ℕ) (x : Lent) → k < length ms → x ≡ get_or ms k x → (a b c : List (List ℕ)) → Uses a b (all_seen (take k ms)) → Uses b c (seen x ∷ []) → Uses a c (all_seen (take (k + 1) ms))
uses_mention ms k x inside item a b c l m =
    subst (λ ns. Uses a c ns) (sym (ap all_seen (take_item ms k x inside item) ∙ map-append seen (take k ms) (x ∷ [])))
    (uses_more a b c (all_seen (take k ms)) (seen x ∷ []) l m)

-- one function more
pub uses_function : (fs : List Function) (k : ℕ) (f : Function) → k < length fs → f ≡ get_or fs k f → (a b c : List (List ℕ)) → Uses a b (flat_map of_function (take k fs)) → Uses b c (of_function f) → Uses a c (flat_map of_function (take (k + 1) fs))
uses_function fs k f inside item a b c l m =
    subst (λ ns. Uses a c ns) (sym (flat_take fs k f inside item of_function)) (uses_more a b c (flat_map of_function (take k fs)) (of_function f) l m)

-- declarations over the names that a module mentions
pub unfit_wrong : (m : Module) (used : List (List ℕ)) (es : List Extern) → Uses [] used (mentions m) → flat_map (unfit used) es ≡ flat_map (wrong_declaration m) es
unfit_wrong m used [] all = refl
unfit_wrong m used (e ∷ es) all =
    ap (λ b. (if b && not (extern_fits e) then global_mark e.name ∷ [] else []) ++ flat_map (unfit used) es) (all e.name)
    ∙ ap (λ ns. wrong_declaration m e ++ ns) (unfit_wrong m used es all)
