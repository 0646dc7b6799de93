-- The moves of an edge: after them all names of a text have the values that the phis give them at once.
use Rattle.std.proofs.Common.{◌≡◌, ℕ, Bool, true, false, List, [], ◌∷◌, ◌++◌, map, Option, Some, None, Ok, Err, refl, ap, sym, ◌∙◌, subst, if◌then◌else◌}
use Rattle.std.specs.Prelude.{◌||◌, option_map}
use Rattle.std.specs.List.{list_all, flat_map}
use Rattle.std.proofs.lemmas.Bool.{and_parts}
use Rattle.ir_core.specs.declared.ty.Ty.{Ty}
use Rattle.ir_core.specs.declared.instruction.Entry.{Entry}
use Rattle.ir_core.specs.declared.instruction.Inst.{Inst}
use Rattle.ir_core.specs.declared.instruction.Op.{Op}
use Rattle.ir_core.specs.declared.instruction.Op.TheVariants.{Phi}
use Rattle.ir_core.specs.declared.module.Function.{Function}
use Rattle.ir_core.specs.declared.module.Module.{Module}
use Rattle.ir_core.specs.declared.memory.Value.{Value}
use Rattle.ir_core.specs.declared.memory.Reason.TheVariants.{Unset}
use Rattle.ir_core.specs.Names.{same_name, first_where}
use Rattle.ir_core.specs.Definitions.{result_names, is_among}
use Rattle.ir_core.specs.Stops.{Left, Malformed, Answer, and_then, found_or}
use Rattle.ir_core.specs.Kinds.{kind_of}
use Rattle.ir_core.specs.State.{Local, with_local}
use Rattle.ir_core.specs.Operands.{local_value, value_of}
use Rattle.ir_core.specs.Step.{Choice, choices_of, choices_with, chosen, given_at_once, result_of}
use Rattle.ir_core.specs.Built.{name_built, operand_built, entry_built, entries_built, type_built, op_built, result_named, inst_built}
use Rattle.ir_sound.specs.WellTyped.{Each}
use Rattle.ir_core.proofs.NameSets.{same_name-sym}
use Rattle.ir_sound.proofs.SameLaws.{not_true, name_is, same_itself, some_is, none_is}
use Rattle.ir_sound.proofs.RowLaws.{Each_parts}
use Rattle.low_core.specs.declared.moves.Move.{Move}
use Rattle.low_core.specs.Plain.{op_of}
use Rattle.phi_lower.specs.Lowered.{aside, PhiPart, phis_of, phis_with, put_of, put_aside, take_of, taken_up, last_first, copies}
use Rattle.phi_lower.proofs.Same.{with_functions, NamesAgree, Same, value_same, all_built}
use Rattle.phi_lower.proofs.Finds.{zero_apart, apart_zero, or_left, or_right}

-- an answer of two parts that is there
pub record BothOk {A B : Type 0} (a : Answer A) (rest : A → Answer B) (y : B) : Type 0 where
  pub first : A
  pub is : a ≡ Ok first
  pub then_is : rest first ≡ Ok y

pub both_ok : {A B : Type 0} (a : Answer A) (rest : A → Answer B) (y : B) → and_then a rest ≡ Ok y → BothOk a rest y
both_ok (Ok x) rest y e = record { first = x; is = refl; then_is = e }
both_ok (Err stop) rest y e = absurd (cc)

-- what is found
pub found_ok : {A : Type 0} (o : Option A) (x : A) → found_or Malformed o ≡ Ok x → o ≡ Some x
found_ok (Some y) x e = ap Some (of_ok y x e)
  where
    of_ok : {A : Type 0} (y x : A) → let a : Answer A = Ok y in a ≡ Ok x → y ≡ x
    of_ok y x e = cc
found_ok None x e = absurd (cc)

-- the locals after moves
abbrev pub moved : Module → List Move → List Local → Answer (List Local)
moved m [] locals = Ok locals
moved m (x ∷ xs) locals = and_then (result_of m [] locals (op_of x.op)) (λ v. moved m xs (with_local x.to v locals))

-- some moves and then others
moved_both : (m : Module) (xs ys : List Move) (locals locals2 : List Local) → moved m xs locals ≡ Ok locals2 → moved m (xs ++ ys) locals ≡ moved m ys locals2
moved_both m [] ys locals locals2 e = ap (moved m ys) (ok_is locals locals2 e)
  where
    ok_is : (a b : List Local) → let r : Answer (List Local) = Ok a in r ≡ Ok b → a ≡ b
    ok_is a b e = cc
moved_both m (x ∷ xs) ys locals locals2 e =
    let b = both_ok (result_of m [] locals (op_of x.op)) (λ v. moved m xs (with_local x.to v locals)) locals2 e in
    ap (λ a. and_then a (λ v. moved m (xs ++ ys) (with_local x.to v locals))) b.is ∙ moved_both m xs ys (with_local x.to b.first locals) locals2 b.then_is

-- a local in front
hit : (l : Local) (locals : List Local) (name : List ℕ) → same_name l.name name ≡ true → local_value (l ∷ locals) name ≡ Ok l.value
hit l locals name e = ap (λ b. found_or (Left Unset) (option_map (λ (x : Local). x.value) (if b then Some l else first_where (λ (x : Local). same_name x.name name) locals))) e

passed : (l : Local) (locals : List Local) (name : List ℕ) → same_name l.name name ≡ false → local_value (l ∷ locals) name ≡ local_value locals name
passed l locals name e = ap (λ b. found_or (Left Unset) (option_map (λ (x : Local). x.value) (if b then Some l else first_where (λ (x : Local). same_name x.name name) locals))) e

-- the names of locals
abbrev names_of : List Local → List (List ℕ)
names_of locals = map (λ (l : Local). l.name) locals

-- a local that is put aside
abbrev pub put_local : Local → Local
put_local l = record { name = aside l.name; value = l.value }

-- what is put aside hides no name of a text
asides_hidden : (got locals : List Local) (name : List ℕ) → name_built name ≡ true → local_value (map put_local got ++ locals) name ≡ local_value locals name
asides_hidden [] locals name built = refl
asides_hidden (l ∷ got) locals name built = passed (put_local l) (map put_local got ++ locals) name (apart_zero l.name name built) ∙ asides_hidden got locals name built

-- locals with names of a text hide nothing that is put aside
built_hidden : (taken locals : List Local) (name : List ℕ) → Each (λ (l : Local). name_built l.name ≡ true) taken → local_value (taken ++ locals) (aside name) ≡ local_value locals (aside name)
built_hidden [] locals name built = refl
built_hidden (l ∷ taken) locals name built = passed l (taken ++ locals) (aside name) (zero_apart name l.name built.0) ∙ built_hidden taken locals name built.1

-- the names under which phis give values
abbrev pub given_names : List PhiPart → List (List ℕ)
given_names ps = flat_map (λ (p : PhiPart). result_names p.into) ps

-- values put aside along an edge, and the same values given at once
record IsPut (m w : Module) (from : List ℕ) (ps : List PhiPart) (locals locals2 after : List Local) : Type 0 where
  got : List Local
  given : after ≡ got ++ locals
  put : moved w (last_first (put_aside from) ps) locals2 ≡ Ok (map put_local got ++ locals2)
  names : names_of got ≡ given_names ps
  built : Each (λ (name : List ℕ). name_built name ≡ true) (given_names ps)

module _ (m : Module) (fs : List Function) (agree : NamesAgree m fs) (from : List ℕ) where
  abbrev pub w : Module
  w = with_functions m fs

  -- one more phi
  one_put : (into : Option (List ℕ)) (ty : Ty) (entries : List Entry) (ps : List PhiPart) (v : Value) (locals locals2 more : List Local) → Same locals locals2 → IsPut m w from ps locals locals2 more → op_built (Phi ty entries) ≡ true → result_named (Phi ty entries) into ≡ true →
      (e : Entry) → first_where (λ (x : Entry). same_name x.from from) entries ≡ Some e → value_of m locals (kind_of ty) e.value ≡ Ok v → operand_built e.value ≡ true →
      IsPut m w from (record { into = into; ty = ty; entries = entries } ∷ ps) locals locals2 (with_local into v more)
  one_put None ty entries ps v locals locals2 more same go built named e found value fine = not_true named
  one_put (Some into) ty entries ps v locals locals2 more same go built named e found value fine = record {
    got = record { name = into; value = v } ∷ go.got;
    given = ap (λ l. record { name = into; value = v } ∷ l) go.given;
    put =
        moved_both w (last_first (put_aside from) ps) (put_aside from (record { into = Some into; ty = ty; entries = entries })) locals2 (map put_local go.got ++ locals2) go.put
        ∙ ap (λ o. moved w (put_of (Some into) ty o) (map put_local go.got ++ locals2)) found
        ∙ ap (λ a. and_then a (λ x. moved w [] (with_local (Some (aside into)) x (map put_local go.got ++ locals2)))) (sym (value_same m fs agree locals (map put_local go.got ++ locals2) (kind_of ty) e.value (λ name nb. same name nb ∙ sym (asides_hidden go.got locals2 name nb)) fine) ∙ value);
    names = ap (λ l. into ∷ l) go.names;
    built = (named, go.built);
  }

  -- an entry that is found
  entry_fine : (ty : Ty) (entries : List Entry) (e : Entry) → op_built (Phi ty entries) ≡ true → first_where (λ (x : Entry). same_name x.from from) entries ≡ Some e → operand_built e.value ≡ true
  entry_fine ty [] e built found = none_is e found
  entry_fine ty (g ∷ gs) e built found =
      let p = and_parts (type_built ty) (entries_built (g ∷ gs)) built in
      of_row (g ∷ gs) (all_built entry_built (g ∷ gs) p.1) found
    where
      of_row : (es : List Entry) → list_all entry_built es ≡ true → first_where (λ (x : Entry). same_name x.from from) es ≡ Some e → operand_built e.value ≡ true
      of_row [] all f = none_is e f
      of_row (h ∷ hs) all f = by_test (same_name h.from from) f (of_row hs (and_parts (entry_built h) (list_all entry_built hs) all).1)
        where
          by_test : (b : Bool) → (if b then Some h else first_where (λ (x : Entry). same_name x.from from) hs) ≡ Some e → (first_where (λ (x : Entry). same_name x.from from) hs ≡ Some e → operand_built e.value ≡ true) → operand_built e.value ≡ true
          by_test true f2 go = subst (λ x. operand_built x.value ≡ true) (some_is h e f2) (and_parts (operand_built h.value) (name_built h.from) (and_parts (entry_built h) (list_all entry_built hs) all).0).0
          by_test false f2 go = go f2

  -- an instruction in front of others
  put_with : (into : Option (List ℕ)) (op : Op) (is : List Inst) (locals locals2 after : List Local) → Same locals locals2 → op_built op ≡ true → result_named op into ≡ true →
      ((more : List Local) → given_at_once m locals from (choices_of is) ≡ Ok more → IsPut m w from (phis_of is) locals locals2 more) →
      given_at_once m locals from (choices_with into op (choices_of is)) ≡ Ok after → IsPut m w from (phis_with into op (phis_of is)) locals locals2 after
  put_with into (Phi ty entries) is locals locals2 after same built named go e =
      let c : Choice = record { into = into; kind = kind_of ty; entries = entries } in
      let one = both_ok (chosen m locals from c) (λ v. and_then (given_at_once m locals from (choices_of is)) (λ more. Ok (with_local into v more))) after e in
      let two = both_ok (given_at_once m locals from (choices_of is)) (λ more. Ok (with_local into one.first more)) after one.then_is in
      let entry = both_ok (found_or Malformed (first_where (λ (x : Entry). same_name x.from from) entries)) (λ x. value_of m locals (kind_of ty) x.value) one.first one.is in
      let found = found_ok (first_where (λ (x : Entry). same_name x.from from) entries) entry.first entry.is in
      subst (IsPut m w from (record { into = into; ty = ty; entries = entries } ∷ phis_of is) locals locals2) (ok_is (with_local into one.first two.first) after two.then_is)
      (one_put into ty entries (phis_of is) one.first locals locals2 two.first same (go two.first two.is) built named entry.first found entry.then_is (entry_fine ty entries entry.first built found))
    where
      ok_is : (a b : List Local) → let r : Answer (List Local) = Ok a in r ≡ Ok b → a ≡ b
      ok_is a b e = cc
  put_with into op is locals locals2 after same built named go e = record { got = []; given = none after e; put = refl; names = refl; built = tt }
    where
      none : (a : List Local) → let r : Answer (List Local) = Ok locals in r ≡ Ok a → a ≡ locals
      none a f = cc

  -- all phis of a block
  puts : (is : List Inst) (locals locals2 after : List Local) → Same locals locals2 → list_all inst_built is ≡ true → given_at_once m locals from (choices_of is) ≡ Ok after → IsPut m w from (phis_of is) locals locals2 after
  puts [] locals locals2 after same built e = record { got = []; given = none after e; put = refl; names = refl; built = tt }
    where
      none : (a : List Local) → let r : Answer (List Local) = Ok locals in r ≡ Ok a → a ≡ locals
      none a f = cc
  puts (i ∷ is) locals locals2 after same built e =
      let p = and_parts (inst_built i) (list_all inst_built is) built in
      let q = and_parts (op_built i.op) (result_named i.op i.result) p.0 in
      put_with i.result i.op is locals locals2 after same q.0 q.1 (λ more f. puts is locals locals2 more same p.1 f) e

-- a name whose value was put aside
abbrev IsAside : List Local → List ℕ → Type 0
IsAside aside_locals name = (name_built name ≡ true) × (v : Value) × (local_value aside_locals (aside name) ≡ Ok v)

-- values taken up
record AreTaken (w : Module) (ps : List PhiPart) (locals : List Local) : Type 0 where
  taken : List Local
  moves : moved w (last_first taken_up ps) locals ≡ Ok (taken ++ locals)
  names : names_of taken ≡ given_names ps
  built : Each (λ (l : Local). name_built l.name ≡ true) taken
  values : Each (λ (l : Local). local_value locals (aside l.name) ≡ Ok l.value) taken

takes : (w : Module) (ps : List PhiPart) (locals : List Local) → Each (IsAside locals) (given_names ps) → AreTaken w ps locals
takes w [] locals all = record { taken = []; moves = refl; names = refl; built = tt; values = tt }
takes w (p ∷ ps) locals all =
    let parts = Each_parts (IsAside locals) (result_names p.into) (given_names ps) all in
    one p.into p.ty parts.0 (takes w ps locals parts.1)
  where
    one : (into : Option (List ℕ)) (ty : Ty) → Each (IsAside locals) (result_names into) → AreTaken w ps locals → AreTaken w (record { into = into; ty = ty; entries = p.entries } ∷ ps) locals
    one None ty own go = record {
      taken = go.taken;
      moves = moved_both w (last_first taken_up ps) [] locals (go.taken ++ locals) go.moves;
      names = go.names;
      built = go.built;
      values = go.values;
    }
    one (Some into) ty own go = record {
      taken = record { name = into; value = own.0.1 } ∷ go.taken;
      moves =
          moved_both w (last_first taken_up ps) (take_of (Some into) ty) locals (go.taken ++ locals) go.moves
          ∙ ap (λ a. and_then a (λ x. moved w [] (with_local (Some into) x (go.taken ++ locals)))) (built_hidden go.taken locals into go.built ∙ own.0.2);
      names = ap (λ l. into ∷ l) go.names;
      built = (own.0.0, go.built);
      values = (own.0.2, go.values);
    }

-- a name among those that were put aside has the value that was given
aside_is : (got locals locals2 : List Local) (name : List ℕ) → is_among (names_of got) name ≡ true → local_value (map put_local got ++ locals2) (aside name) ≡ local_value (got ++ locals) name
aside_is [] locals locals2 name among = not_true among
aside_is (l ∷ got) locals locals2 name among = by_test (same_name l.name name) refl (aside_is got locals locals2 name)
  where
    by_test : (b : Bool) → same_name l.name name ≡ b → (is_among (names_of got) name ≡ true → local_value (map put_local got ++ locals2) (aside name) ≡ local_value (got ++ locals) name) → local_value (map put_local (l ∷ got) ++ locals2) (aside name) ≡ local_value (l ∷ got ++ locals) name
    by_test true e go = hit (put_local l) (map put_local got ++ locals2) (aside name) e ∙ sym (hit l (got ++ locals) name e)
    by_test false e go = passed (put_local l) (map put_local got ++ locals2) (aside name) e ∙ go (rest (same_name name l.name) (sym (same_name-sym l.name name) ∙ e) among) ∙ sym (passed l (got ++ locals) name e)
      where
        rest : (b : Bool) → b ≡ false → (b || is_among (names_of got) name) ≡ true → is_among (names_of got) name ≡ true
        rest true f g = not_true (sym f)
        rest false f g = g

-- it is there
aside_there : (got locals2 : List Local) (name : List ℕ) → is_among (names_of got) name ≡ true → (v : Value) × (local_value (map put_local got ++ locals2) (aside name) ≡ Ok v)
aside_there [] locals2 name among = not_true among
aside_there (l ∷ got) locals2 name among = by_test (same_name l.name name) refl (aside_there got locals2 name)
  where
    by_test : (b : Bool) → same_name l.name name ≡ b → (is_among (names_of got) name ≡ true → (v : Value) × (local_value (map put_local got ++ locals2) (aside name) ≡ Ok v)) → (v : Value) × (local_value (map put_local (l ∷ got) ++ locals2) (aside name) ≡ Ok v)
    by_test true e go = (l.value, hit (put_local l) (map put_local got ++ locals2) (aside name) e)
    by_test false e go =
        let t = go (rest (same_name name l.name) (sym (same_name-sym l.name name) ∙ e) among) in
        (t.0, passed (put_local l) (map put_local got ++ locals2) (aside name) e ∙ t.1)
      where
        rest : (b : Bool) → b ≡ false → (b || is_among (names_of got) name) ≡ true → is_among (names_of got) name ≡ true
        rest true f g = not_true (sym f)
        rest false f g = g

-- so for all of them
all_aside : (got locals2 : List Local) (names : List (List ℕ)) → ((name : List ℕ) → is_among names name ≡ true → is_among (names_of got) name ≡ true) → Each (λ (name : List ℕ). name_built name ≡ true) names → Each (IsAside (map put_local got ++ locals2)) names
all_aside got locals2 [] among built = tt
all_aside got locals2 (n ∷ ns) among built =
    let t = aside_there got locals2 n (among n (or_left (same_name n n) (is_among ns n) (same_itself n))) in
    ((built.0, t.0, t.1), all_aside got locals2 ns (λ name e. among name (or_right (same_name name n) (is_among ns name) e)) built.1)

-- a name that isn't among locals
not_among : (got locals : List Local) (name : List ℕ) → is_among (names_of got) name ≡ false → local_value (got ++ locals) name ≡ local_value locals name
not_among [] locals name e = refl
not_among (l ∷ got) locals name e = by_test (same_name name l.name) refl e (not_among got locals name)
  where
    by_test : (b : Bool) → same_name name l.name ≡ b → (b || is_among (names_of got) name) ≡ false → (is_among (names_of got) name ≡ false → local_value (got ++ locals) name ≡ local_value locals name) → local_value (l ∷ got ++ locals) name ≡ local_value locals name
    by_test true f g go = not_true (sym g)
    by_test false f g go = passed l (got ++ locals) name (same_name-sym l.name name ∙ f) ∙ go g

-- a name among those that were taken up has the value that was put aside
taken_is : (taken locals : List Local) (name : List ℕ) → Each (λ (l : Local). local_value locals (aside l.name) ≡ Ok l.value) taken → is_among (names_of taken) name ≡ true → local_value (taken ++ locals) name ≡ local_value locals (aside name)
taken_is [] locals name values among = not_true among
taken_is (l ∷ taken) locals name values among = by_test (same_name name l.name) refl among (taken_is taken locals name values.1)
  where
    by_test : (b : Bool) → same_name name l.name ≡ b → (b || is_among (names_of taken) name) ≡ true → (is_among (names_of taken) name ≡ true → local_value (taken ++ locals) name ≡ local_value locals (aside name)) → local_value (l ∷ taken ++ locals) name ≡ local_value locals (aside name)
    by_test true f g go = hit l (taken ++ locals) name (same_name-sym l.name name ∙ f) ∙ sym values.0 ∙ ap (λ n. local_value locals (aside n)) (sym (name_is name l.name f))
    by_test false f g go = passed l (taken ++ locals) name (same_name-sym l.name name ∙ f) ∙ go g

-- the moves of an edge lead to the same values
pub record AreCopied (w : Module) (from : List ℕ) (ps : List PhiPart) (after locals2 : List Local) : Type 0 where
  pub after2 : List Local
  pub moves : moved w (copies from ps) locals2 ≡ Ok after2
  pub same : Same after after2

pub copied : (m : Module) (fs : List Function) (agree : NamesAgree m fs) (from : List ℕ) (is : List Inst) (locals locals2 after : List Local) → Same locals locals2 → list_all inst_built is ≡ true → given_at_once m locals from (choices_of is) ≡ Ok after → AreCopied (with_functions m fs) from (phis_of is) after locals2
copied m fs agree from is locals locals2 after same built e =
    let ps = phis_of is in
    let p = puts m fs agree from is locals locals2 after same built e in
    let base = map put_local p.got ++ locals2 in
    let t = takes (with_functions m fs) ps base (all_aside p.got locals2 (given_names ps) (λ name a. ap (λ ns. is_among ns name) p.names ∙ a) p.built) in
    record {
      after2 = t.taken ++ base;
      moves = moved_both (with_functions m fs) (last_first (put_aside from) ps) (last_first taken_up ps) locals2 base p.put ∙ t.moves;
      same = λ name nb. ap (λ l. local_value l name) p.given ∙ by_test p.got t.taken (p.names ∙ sym t.names) t.values name nb (is_among (names_of p.got) name) refl;
    }
  where
    by_test : (got taken : List Local) → names_of got ≡ names_of taken → Each (λ (l : Local). local_value (map put_local got ++ locals2) (aside l.name) ≡ Ok l.value) taken → (name : List ℕ) → name_built name ≡ true → (b : Bool) → is_among (names_of got) name ≡ b → local_value (got ++ locals) name ≡ local_value (taken ++ (map put_local got ++ locals2)) name
    by_test got taken names values name nb true among = sym (aside_is got locals locals2 name among) ∙ sym (taken_is taken (map put_local got ++ locals2) name values (ap (λ ns. is_among ns name) (sym names) ∙ among))
    by_test got taken names values name nb false among =
        not_among got locals name among ∙ same name nb ∙ sym (asides_hidden got locals2 name nb)
        ∙ sym (not_among taken (map put_local got ++ locals2) name (ap (λ ns. is_among ns name) (sym names) ∙ among))
