-- The first state stands for that of the meaning.
use Rattle.std.proofs.Common.{◌≡◌, ◌≤◌, ℕ, zero, suc, List, [], ◌∷◌, Option, Some, None, length, slice_get, refl, ap, sym, ◌∙◌, arith, subst}
use Rattle.std.specs.Prelude.{option_map, codes}
use Rattle.std.proofs.lemmas.List.{length-map}
use Rattle.behavior.specs.Ending.{Going}
use Rattle.ir_core.specs.declared.module.Param.{Param}
use Rattle.ir_core.specs.declared.module.Function.{Function}
use Rattle.ir_core.specs.declared.module.Module.{Module}
use Rattle.ir_core.specs.declared.memory.Value.{Value}
use Rattle.ir_core.specs.Kinds.{kind_of}
use Rattle.ir_core.specs.Memory.{Memory}
use Rattle.ir_core.specs.State as model
use Rattle.ir_core.specs.Stops.{Malformed, ending_of}
use Rattle.ir_core.specs.Operands.{function_number}
use Rattle.ir_core.specs.Calls.{bound, first_frame}
use Rattle.ir_core.specs.Globals.{first_objects}
use Rattle.ir_core.specs.Run.{first_arguments, standing, start_in, start_at, source_start}
use Rattle.ir_context.specs.Registers.{StandFor}
use Rattle.ir_program.specs.declared.program.Body.{Body}
use Rattle.ir_program.specs.declared.program.Program.{Program}
use Rattle.ir_program.specs.Programs.{register_names, body_of}
use Rattle.ir_run.specs.declared.state.State.{State}
use Rattle.ir_run.specs.Standing.{names_of, FrameStands, StandsFor}
use Rattle.ir_run.specs.Runs.{StartsFor}
use Rattle.ir_run.specs.Starts.{arguments_for, started, Starts}
use Rattle.ir_run.proofs.Entering.{first_registers, entered_stands, entered_long}
use Rattle.ir_run.proofs.Calls.{got_mapped}

-- only as many arguments are bound as there are parameters
bound_all : (params : List Param) → bound params (arguments_for (length params)) ≡ bound params first_arguments
bound_all [] = refl
bound_all (p ∷ []) = refl
bound_all (p ∷ q ∷ ps) = refl

few_arguments : (params : List Param) → length (arguments_for (length params)) ≤ length params
few_arguments [] = omega arith
few_arguments (p ∷ []) = omega arith
few_arguments (p ∷ q ∷ ps) = omega arith

-- the arguments of two parameters and more
pub all_arguments : (n : ℕ) → (n ≡ 0 → ⊥) → (n ≡ 1 → ⊥) → first_arguments ≡ arguments_for n
all_arguments zero some more = absurd (some refl)
all_arguments (suc zero) some more = absurd (more refl)
all_arguments (suc (suc n)) some more = refl

-- as many kinds as parameters
kinds_many : (m : Module) (f : Function) → length (body_of m f).parameters ≡ length f.params
kinds_many m f = length-map f.params (λ (p : Param). kind_of p.ty)

module _ (m : Module) (memory : Memory) (f : Function) (number : ℕ) (there : slice_get m.functions number ≡ Some f) (objects : memory ≡ first_objects m) where
  abbrev values : List Value
  values = arguments_for (length f.params)

  first_stands : FrameStands m (started (body_of m f) number memory).frame (first_frame number f first_arguments None)
  first_stands =
      subst (λ (n : ℕ). FrameStands m (record (started (body_of m f) number memory).frame { registers = first_registers (length (register_names f)) (arguments_for n) }) (first_frame number f first_arguments None)) (sym (kinds_many m f)) (record {
        function = refl;
        block = refl;
        next = refl;
        registers = subst (λ names. StandFor names (first_registers (length (register_names f)) values) (bound f.params first_arguments)) (sym (ap names_of there))
            (subst (λ locals. StandFor (register_names f) (first_registers (length (register_names f)) values) locals) (bound_all f.params) (entered_stands f values (few_arguments f.params)));
        long = entered_long f values (few_arguments f.params) ∙ sym (ap length (ap names_of there));
        objects = refl;
      })

  pub begins : (start : model.State) → start ≡ standing (first_objects m) (first_frame number f first_arguments None ∷ []) Going → (start.ending ≡ Going) × (start.printed ≡ []) × (start.taken ≡ 0)
      × StandsFor m (started (body_of m f) number memory) start.frames start.objects
  begins start is = (
    ap (λ (s : model.State). s.ending) is,
    ap (λ (s : model.State). s.printed) is,
    ap (λ (s : model.State). s.taken) is,
    subst (λ (s : model.State). StandsFor m (started (body_of m f) number memory) s.frames s.objects) (sym is) (record { calls = (first_stands, tt); memory = objects }),
  )

-- what the first state is
start_is : (m : Module) (o : Option ℕ) → function_number m (codes "main") ≡ o → source_start m ≡ start_at m o
unfolding source_start
start_is m o is = ap (start_at m) is

-- a `main` that is there
pub starts_there : (p : Program) (memory : Memory) (number : ℕ) (body : Body) (s : State) → p.main ≡ Some number → slice_get p.bodies number ≡ Some body → s ≡ started body number memory
    → Starts p memory (Some s)
unfolding Starts
starts_there p memory number body s main there is m same objects = by (slice_get m.functions number) refl
  where
    main_is : function_number m (codes "main") ≡ Some number
    main_is = sym (ap (λ (q : Program). q.main) same) ∙ main

    body_is : option_map (body_of m) (slice_get m.functions number) ≡ Some body
    body_is = sym (got_mapped (body_of m) m.functions number) ∙ sym (ap (λ (q : Program). slice_get q.bodies number) same) ∙ there

    by : (o : Option Function) → slice_get m.functions number ≡ o → StartsFor m s
    by None e = let none : None ≡ Some body = ap (option_map (body_of m)) (sym e) ∙ body_is in absurd (cc)
    by (Some f) e =
        let made : Some (body_of m f) ≡ Some body = ap (option_map (body_of m)) (sym e) ∙ body_is in
        let same_body : body ≡ body_of m f = cc in
        let start : source_start m ≡ standing (first_objects m) (first_frame number f first_arguments None ∷ []) Going = start_is m (Some number) main_is ∙ ap (start_in m number) e in
        let b = begins m memory f number e objects (source_start m) start in
        subst (λ (t : State). StartsFor m t) (sym (is ∙ ap (λ (c : Body). started c number memory) same_body)) (record { going = b.0; printed = b.1; taken = b.2; stands = b.3 })

-- none
pub starts_nowhere : (p : Program) (memory : Memory) → p.main ≡ None → Starts p memory None
unfolding Starts
starts_nowhere p memory main m same = ap (λ (s : model.State). s.ending) (start_is m None (sym (ap (λ (q : Program). q.main) same) ∙ main))

pub starts_past : (p : Program) (memory : Memory) (number : ℕ) → p.main ≡ Some number → slice_get p.bodies number ≡ None → Starts p memory None
unfolding Starts
starts_past p memory number main there m same = by (slice_get m.functions number) refl
  where
    main_is : function_number m (codes "main") ≡ Some number
    main_is = sym (ap (λ (q : Program). q.main) same) ∙ main

    none_is : option_map (body_of m) (slice_get m.functions number) ≡ None
    none_is = sym (got_mapped (body_of m) m.functions number) ∙ sym (ap (λ (q : Program). slice_get q.bodies number) same) ∙ there

    by : (o : Option Function) → slice_get m.functions number ≡ o → (source_start m).ending ≡ ending_of Malformed
    by None e = ap (λ (s : model.State). s.ending) (start_is m (Some number) main_is ∙ ap (start_in m number) e)
    by (Some f) e = let some : Some (body_of m f) ≡ None = ap (option_map (body_of m)) (sym e) ∙ none_is in absurd (cc)
