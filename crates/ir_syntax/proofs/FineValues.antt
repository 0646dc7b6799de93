-- One token ahead is enough for values, initialisers, parameters, arguments and metadata.
use Rattle.std.proofs.Common.{◌≡◌, ℕ, zero, suc, true, List, [], ◌∷◌, ◌++◌, refl, append-nil}
use Rattle.std.specs.Prelude.{codes}
use Rattle.ir_core.specs.declared.init.Init.{Init}
use Rattle.ir_grammar.specs.Tokens.{Sort, word, mark, local, cstr, count, number, global, debug_global}
use Rattle.ir_grammar.specs.Grammar.{Grammar, either}
use Rattle.ir_grammar.specs.Parts.{behind_comma}
use Rattle.ir_grammar.specs.Reading.{first, fine}
use Rattle.ir_grammar.proofs.Closed.{Closed}
use Rattle.ir_grammar.proofs.Rows.{Item}
use Rattle.ir_syntax.specs.Words.{words_from, flag, link, convention, parameter_word}
use Rattle.ir_syntax.specs.Types.{ty}
use Rattle.ir_syntax.specs.Values.{const_value, plain_value, place_index, place, fixed_value, value}
use Rattle.ir_syntax.specs.Initialisers.{element, simple_init, array_init, struct_init, packed_init, deep_init, init_at, init}
use Rattle.ir_syntax.specs.Parameters.{pattr, param, params, declared_param, declared_params, arg, args}
use Rattle.ir_syntax.specs.Metadata.{group, metadata, attach, attaches, align_tail}
use Rattle.ir_syntax.proofs.FineTypes.{closed-ty, first-ty}

-- words
pub item-flag : Item flag
unfolding flag
item-flag = record { good = refl; some = refl }

pub item-link : Item link
unfolding link
item-link = record { good = refl; some = refl }

pub item-convention : Item convention
unfolding convention
item-convention = record { good = refl; some = refl }

-- values
pub closed-const_value : Closed const_value
unfolding const_value
closed-const_value = record { good = refl; some = refl; ends = refl }

pub closed-plain_value : Closed plain_value
unfolding plain_value const_value
closed-plain_value = record { good = refl; some = refl; ends = refl }

-- the sorts that values other than locals and places begin with
abbrev pub plain_firsts : List Sort
plain_firsts = count ∷ number ∷ words_from [] (codes "true false null undef poison") ++ global ∷ debug_global ∷ []

pub first-plain_value : first plain_value ≡ plain_firsts
unfolding plain_value const_value
first-plain_value = refl

pub item-place_index : Item (behind_comma place_index)
unfolding place_index
item-place_index = let f = closed-ty.good in let s = closed-ty.some in let e = closed-ty.ends in record { good = simp (f, s, e, first-ty); some = refl }

pub closed-place : Closed place
unfolding place flag place_index
closed-place = let f = closed-ty.good in let s = closed-ty.some in let e = closed-ty.ends in record { good = simp (f, s, e, first-ty); some = refl; ends = refl }

pub first-place : first place ≡ word (codes "getelementptr") ∷ []
unfolding place
first-place = refl

pub closed-fixed_value : Closed fixed_value
unfolding fixed_value
closed-fixed_value =
    let f = closed-place.good in let s = closed-place.some in let e = closed-place.ends in
    let pf = closed-plain_value.good in let ps = closed-plain_value.some in let pe = closed-plain_value.ends in
    record { good = simp (f, s, e, first-place, pf, ps, pe, first-plain_value); some = simp (ps, s); ends = simp (e, ps, pe, s) }

pub first-fixed_value : first fixed_value ≡ plain_firsts ++ word (codes "getelementptr") ∷ []
unfolding fixed_value place plain_value const_value
first-fixed_value = refl

pub closed-value : Closed value
unfolding value
closed-value =
    let f = closed-place.good in let s = closed-place.some in let e = closed-place.ends in
    let pf = closed-plain_value.good in let ps = closed-plain_value.some in let pe = closed-plain_value.ends in
    record { good = simp (f, s, e, first-place, pf, ps, pe, first-plain_value); some = simp (ps, s); ends = simp (e, ps, pe, s) }

pub first-value : first value ≡ plain_firsts ++ local ∷ word (codes "getelementptr") ∷ []
unfolding value place plain_value const_value
first-value = refl

-- initialisers
closed-element : (g : Grammar Init) → Closed g → Closed (element g)
unfolding element
closed-element g c =
    let f = c.good in let s = c.some in let e = c.ends in
    let tf = closed-ty.good in let ts = closed-ty.some in let te = closed-ty.ends in
    record { good = simp (f, s, e, tf, ts, te); some = simp (s, ts); ends = simp (e, s) }

first-element : (g : Grammar Init) → first (element g) ≡ first ty
unfolding element ty
first-element g = simp (closed-ty.some, append-nil)

pub item-element : (g : Grammar Init) → Closed g → Item (behind_comma (element g))
item-element g c = let k = closed-element g c in let f = k.good in record { good = simp f; some = refl }

closed-array_init : (g : Grammar Init) → Closed g → Closed (array_init g)
unfolding array_init
closed-array_init g c =
    let k = closed-element g c in let f = k.good in let s = k.some in let e = k.ends in
    record { good = simp (f, s, e, first-element g, first-ty); some = refl; ends = simp s }

closed-struct_init : (g : Grammar Init) → Closed g → Closed (struct_init g)
unfolding struct_init
closed-struct_init g c =
    let k = closed-element g c in let f = k.good in let s = k.some in let e = k.ends in
    record { good = simp (f, s, e, first-element g, first-ty); some = refl; ends = simp s }

closed-packed_init : (g : Grammar Init) → Closed g → Closed (packed_init g)
unfolding packed_init
closed-packed_init g c =
    let k = closed-element g c in let f = k.good in let s = k.some in let e = k.ends in
    record { good = simp (f, s, e, first-element g, first-ty); some = refl; ends = refl }

first-array_init : (g : Grammar Init) → first (array_init g) ≡ mark 91 ∷ []
unfolding array_init
first-array_init g = refl

first-struct_init : (g : Grammar Init) → first (struct_init g) ≡ mark 123 ∷ []
unfolding struct_init
first-struct_init g = refl

first-packed_init : (g : Grammar Init) → first (packed_init g) ≡ mark 60 ∷ []
unfolding packed_init
first-packed_init g = refl

closed-three : (a b d : Grammar Init) → Closed a → Closed b → Closed d → first a ≡ mark 91 ∷ [] → first b ≡ mark 123 ∷ [] → first d ≡ mark 60 ∷ [] → Closed (either a (either b d))
closed-three a b d x y z e f h =
    let xg = x.good in let xs = x.some in let xe = x.ends in
    let yg = y.good in let ys = y.some in let ye = y.ends in
    let zg = z.good in let zs = z.some in let ze = z.ends in
    record { good = simp (e, f, h, xg, xs, yg, ys, zg); some = simp (xs, ys, zs); ends = simp (xe, ye, ze, ys, zs) }

closed-deep_init : (g : Grammar Init) → Closed g → Closed (deep_init g)
unfolding deep_init
closed-deep_init g c =
    closed-three (array_init g) (struct_init g) (packed_init g) (closed-array_init g c) (closed-struct_init g c) (closed-packed_init g c) (first-array_init g)
    (first-struct_init g) (first-packed_init g)

pub first-deep_init : (g : Grammar Init) → first (deep_init g) ≡ mark 91 ∷ mark 123 ∷ mark 60 ∷ []
unfolding deep_init array_init struct_init packed_init
first-deep_init g = refl

pub closed-simple_init : Closed simple_init
unfolding simple_init
closed-simple_init =
    let f = closed-fixed_value.good in let s = closed-fixed_value.some in let e = closed-fixed_value.ends in
    record { good = simp (f, s, e, first-fixed_value); some = simp s; ends = simp (e, s) }

pub first-simple_init : first simple_init ≡ plain_firsts ++ word (codes "getelementptr") ∷ word (codes "zeroinitializer") ∷ cstr ∷ []
unfolding simple_init fixed_value place plain_value const_value
first-simple_init = refl

closed-init_either : (d : Grammar Init) → Closed d → first d ≡ mark 91 ∷ mark 123 ∷ mark 60 ∷ [] → Closed (either simple_init d)
closed-init_either d c e =
    let f = c.good in let s = c.some in let n = c.ends in
    let pf = closed-simple_init.good in let ps = closed-simple_init.some in let pe = closed-simple_init.ends in
    record { good = simp (f, s, pf, ps, first-simple_init, e); some = simp (s, ps); ends = simp (n, s, pe) }

pub closed-init_at : (n : ℕ) → Closed (init_at n)
unfolding init_at
closed-init_at zero = closed-simple_init
closed-init_at (suc n) = closed-init_either (deep_init (init_at n)) (closed-deep_init (init_at n) (closed-init_at n)) (first-deep_init (init_at n))

pub closed-init : Closed init
unfolding init
closed-init = closed-init_at 64

-- parameters and arguments
pub item-pattr : Item pattr
unfolding pattr parameter_word
item-pattr = record { good = refl; some = refl }

pub item-param : Item (behind_comma param)
unfolding param pattr parameter_word
item-param = let f = closed-ty.good in let s = closed-ty.some in let e = closed-ty.ends in record { good = simp (f, s, e, first-ty); some = refl }

pub closed-params : Closed params
unfolding params param pattr parameter_word
closed-params = let f = closed-ty.good in let s = closed-ty.some in let e = closed-ty.ends in record { good = simp (f, s, e, first-ty); some = refl; ends = simp s }

pub item-declared_param : Item (behind_comma declared_param)
unfolding declared_param pattr parameter_word
item-declared_param = let f = closed-ty.good in let s = closed-ty.some in let e = closed-ty.ends in record { good = simp (f, s, e, first-ty); some = refl }

pub closed-declared_params : Closed declared_params
unfolding declared_params declared_param pattr parameter_word
closed-declared_params = let f = closed-ty.good in let s = closed-ty.some in let e = closed-ty.ends in record { good = simp (f, s, e, first-ty); some = refl; ends = simp s }

pub item-arg : Item (behind_comma arg)
unfolding arg pattr parameter_word
item-arg =
    let f = closed-ty.good in let s = closed-ty.some in let e = closed-ty.ends in
    let vf = closed-value.good in let vs = closed-value.some in let ve = closed-value.ends in
    record { good = simp (f, s, e, first-ty, vf, vs, ve, first-value); some = refl }

pub closed-args : Closed args
unfolding args arg pattr parameter_word
closed-args =
    let f = closed-ty.good in let s = closed-ty.some in let e = closed-ty.ends in
    let vf = closed-value.good in let vs = closed-value.some in let ve = closed-value.ends in
    record { good = simp (f, s, e, first-ty, vf, vs, ve, first-value); some = refl; ends = simp (s, vs) }

-- metadata
pub closed-group : Closed group
unfolding group
closed-group = record { good = refl; some = refl; ends = refl }

pub closed-metadata : Closed metadata
unfolding metadata group
closed-metadata = record { good = refl; some = refl; ends = refl }

pub closed-attach : Closed attach
unfolding attach metadata group
closed-attach = record { good = refl; some = refl; ends = refl }

pub item-attach : Item (behind_comma attach)
unfolding attach metadata group
item-attach = record { good = refl; some = refl }

pub fine-attaches : fine attaches ≡ true
unfolding attaches attach metadata group
fine-attaches = refl

pub fine-align_tail : fine align_tail ≡ true
unfolding align_tail attaches attach metadata group
fine-align_tail = refl
