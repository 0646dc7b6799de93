-- What one argument of a command line does to the parser's walk over the words.
use Rattle.std.proofs.Common.{◌≡◌, ℕ, Bool, true, false, not, List, [], ◌∷◌, Option, Some, None, refl, ◌∙◌, ap, ap₂, arith}
use Rattle.std.specs.Prelude.{if◌then◌else◌, nat_eq, nat_lt, ◌==◌, ◌&&◌, ◌||◌, option_and_then}
use Rattle.std.specs.Option.{option_map_or}
use Rattle.std.specs.Str.{bytes_eq}
use Rattle.clap.specs.Lexer.{long_of, long_of_rest, short_of, short_of_rest, strip_byte}
use Rattle.clap.specs.Simple.{Shape}
use Rattle.clap.specs.Takes.{settle_passes, turn_passes, use_passes, step_passes, positional_passes, other_passes, flag_word_passes, bundle_passes, option_passes, long_passes}
use Rattle.clap.specs.Walk.{Text, Rule, Row, Held, Walk, Waiting, Step, idle, option, next, trailing, arg_by_id, arg_by_index, arg_by_long, has_row, is_pending, settled, reacted, pushed, walked, plain_word, subcommand_or_other, long_or_other, short_or_plain, long_met, after_flag, after_step, option_word, option_met, to_positional}
use Rattle.clap.specs.declared.builder.action.ArgAction.TheVariants.{Set}
use Rattle.clap.specs.declared.builder.range.ValueRange.{ValueRange}
use Rattle.clap.specs.declared.builder.value_parser.ValueParser.TheVariants as vp
use Rattle.rd_words.specs.Arguments.{is_plain}

abbrev pub once : ValueRange
once = record { start_inclusive = 1; end_inclusive = 1 }

-- an argument that takes one value, whatever it is
abbrev pub single : Text → Option Text → Option ℕ → Rule
single id long index = record {
  id = id;
  long = long;
  aliases = [];
  short = None;
  short_aliases = [];
  index = index;
  action = Some Set;
  range = Some once;
  value_names = 0;
  defaults = [];
  missing = [];
  trailing_var_arg = false;
  parser = Some vp.String;
  ignore_case = false;
  required = false;
  is_simple = true;
  is_free = true;
}

-- a word that is no flag
pub record IsNoFlag (word : Text) : Type 0 where
  pub dashes : bytes_eq word (45 ∷ 45 ∷ []) ≡ false
  pub long : long_of word ≡ None
  pub short : short_of word ≡ None

and_false : (b : Bool) → (b && false) ≡ false
and_false true = refl
and_false false = refl

or_true : (b : Bool) → (b || true) ≡ true
or_true true = refl
or_true false = refl

no_long : (b : Bool) → option_and_then long_of_rest (option_and_then (strip_byte 45) (if b then Some [] else None)) ≡ None
no_long true = refl
no_long false = refl

no_short : (b : Bool) → option_and_then short_of_rest (if b then Some [] else None) ≡ None
no_short true = refl
no_short false = refl

is_not : (b : Bool) → not b ≡ true → b ≡ false
is_not true h = absurd (cc)
is_not false h = refl

pub plain_is_no_flag : (word : Text) → is_plain word ≡ true → IsNoFlag word
plain_is_no_flag [] h = record { dashes = refl; long = refl; short = refl }
plain_is_no_flag (c ∷ []) h = record { dashes = and_false (nat_eq c 45); long = no_long (c == 45); short = no_short (c == 45) }
plain_is_no_flag (c ∷ d ∷ rest) h =
    let e = is_not (nat_eq c 45) h in
    record {
      dashes = ap (λ b. b && bytes_eq (d ∷ rest) (45 ∷ [])) e;
      long = ap (λ b. option_and_then long_of_rest (option_and_then (strip_byte 45) (if b then Some (d ∷ rest) else None))) e;
      short = ap (λ b. option_and_then short_of_rest (if b then Some (d ∷ rest) else None)) e;
    }

pub same_self : (word : Text) → bytes_eq word word ≡ true
same_self [] = refl
same_self (c ∷ rest) = ap₂ (λ a b. a && b) (same_number c) (same_self rest)
  where
    same_number : (n : ℕ) → nat_eq n n ≡ true
    same_number n = grind arith

-- between two arguments
abbrev pub between : Held → ℕ → Walk
between h position = record { held = h; waiting = idle; position = position; is_trailing = false; stopped = None }

-- behind an option that waits for its value
abbrev pub behind : Held → ℕ → Text → Walk
behind h position id = record { held = h; waiting = option id; position = position; is_trailing = false; stopped = None }

module _ (s : Shape) (again : s.args_override_self ≡ true) where
  -- the value of one use is taken
  pub use_is_taken : (i : Text) (l : Option Text) (x : Option ℕ) (v : Text) (rows : List Row) → use_passes s.args_override_self (single i l x) (v ∷ []) rows ≡ true
  use_is_taken i l x v rows =
      ap (λ a. (not (has_row i rows) || a) && true) again ∙ ap (λ b. b && true) (or_true (not (has_row i rows)))

  -- what waits to be settled is taken
  pub settles : (i : Text) (l : Option Text) (x : Option ℕ) (v : Text) (rows : List Row) (skip : ℕ) → arg_by_id s.rules i ≡ Some (single i l x) →
      settle_passes s.rules s.args_override_self (record { rows = rows; pending = Some (i, v ∷ []); skip = skip }) ≡ true
  settles i l x v rows skip e =
      ap (λ o. option_map_or (λ a. use_passes s.args_override_self a (v ∷ []) rows) o true) e ∙ use_is_taken i l x v rows

  -- ---- a word that is no flag

  no_flag : (w : Text) (h : Held) → IsNoFlag w → (waiting : Waiting) → (position : ℕ) →
      subcommand_or_other s.rules None waiting position w h ≡ plain_word s.rules waiting w h
  no_flag w h apart waiting position =
      ap (λ b. if b then (h, trailing position) else long_or_other s.rules waiting w (long_of w) h) apart.dashes ∙
      ap (λ o. long_or_other s.rules waiting w o h) apart.long ∙ ap (λ o. short_or_plain s.rules waiting w o h) apart.short

  no_flag_passes : (w : Text) (h : Held) → IsNoFlag w → other_passes s None w h ≡ true
  no_flag_passes w h apart =
      ap (λ b. b || flag_word_passes s.rules s.args_override_self (long_of w) w h) apart.dashes ∙
      ap (λ o. flag_word_passes s.rules s.args_override_self o w h) apart.long ∙
      ap (λ o. option_map_or (λ flags. bundle_passes s.rules s.args_override_self flags h) o true) apart.short

  -- ---- FILE

  module _ (i : Text) (w : Text) (h : Held) (at : arg_by_index s.rules 1 ≡ Some (single i None (Some 1))) (apart : IsNoFlag w) where
    pub file_walked : walked s.rules [] (between h 1) w ≡ between (pushed i w (settled s.rules h)) 2
    unfolding walked
    file_walked =
        ap (λ (met : Held × Step). after_step s.rules w (between h 1) met.0 met.1) (no_flag w h apart idle 1) ∙
        ap (λ o. to_positional s.rules o w (between h 1) h) at ∙
        ap (λ b. between (pushed i w (if b then h else settled s.rules h)) 2) (and_false (is_pending (single i None (Some 1)) h.pending))

    pub file_passes : settle_passes s.rules s.args_override_self h ≡ true → turn_passes s [] (between h 1) w ≡ true
    file_passes ok =
        ap₂ (λ a (met : Held × Step). a && step_passes s 1 met.0 met.1) (no_flag_passes w h apart) (no_flag w h apart idle 1) ∙
        ap (λ o. option_map_or (λ a. positional_passes s.rules s.args_override_self a h) o false) at ∙
        ap (λ b. (is_pending (single i None (Some 1)) h.pending && false) || b) ok ∙ or_true (is_pending (single i None (Some 1)) h.pending && false)

  -- ---- an option

  module _ (i name w : Text) (h : Held) (position : ℕ) (at : arg_by_long s.rules name ≡ Some (single i (Some i) None)) where
    -- a word that is a long flag
    flag : (v : Option Text) → bytes_eq w (45 ∷ 45 ∷ []) ≡ false → long_of w ≡ Some (name, v) →
        subcommand_or_other s.rules None idle position w h ≡ after_flag s.rules idle w (option_met s.rules (single i (Some i) None) v h).0 (option_met s.rules (single i (Some i) None) v h).1
    flag v dashes long =
        ap (λ b. if b then (h, trailing position) else long_or_other s.rules idle w (long_of w) h) dashes ∙
        ap (λ o. long_or_other s.rules idle w o h) long ∙
        ap (λ o. after_flag s.rules idle w (long_met s.rules o v h).0 (long_met s.rules o v h).1) at

    flag_passes : (v : Option Text) → bytes_eq w (45 ∷ 45 ∷ []) ≡ false → long_of w ≡ Some (name, v) →
        other_passes s None w h ≡ option_passes s.rules s.args_override_self (single i (Some i) None) v h
    flag_passes v dashes long =
        ap (λ b. b || flag_word_passes s.rules s.args_override_self (long_of w) w h) dashes ∙
        ap (λ o. flag_word_passes s.rules s.args_override_self o w h) long ∙
        ap (λ o. long_passes s.rules s.args_override_self o v h) at

    pub whole_walked : (v : Text) → bytes_eq w (45 ∷ 45 ∷ []) ≡ false → long_of w ≡ Some (name, Some v) →
        walked s.rules [] (between h position) w ≡ between (reacted s.rules (single i (Some i) None) (v ∷ []) h) position
    unfolding walked
    whole_walked v dashes long =
        ap (λ (met : Held × Step). after_step s.rules w (between h position) met.0 met.1) (flag (Some v) dashes long)

    pub whole_passes : (v : Text) → bytes_eq w (45 ∷ 45 ∷ []) ≡ false → long_of w ≡ Some (name, Some v) →
        settle_passes s.rules s.args_override_self h ≡ true → turn_passes s [] (between h position) w ≡ true
    whole_passes v dashes long ok =
        ap₂ (λ a (met : Held × Step). a && step_passes s position met.0 met.1) (flag_passes (Some v) dashes long) (flag (Some v) dashes long) ∙
        ap₂ (λ a b. (a && b) && true) ok (use_is_taken i (Some i) None v (settled s.rules h).rows)

    pub alone_walked : bytes_eq w (45 ∷ 45 ∷ []) ≡ false → long_of w ≡ Some (name, None) →
        walked s.rules [] (between h position) w ≡ behind (record (settled s.rules h) { pending = Some (i, []) }) position i
    unfolding walked
    alone_walked dashes long =
        ap (λ (met : Held × Step). after_step s.rules w (between h position) met.0 met.1) (flag None dashes long)

    pub alone_passes : bytes_eq w (45 ∷ 45 ∷ []) ≡ false → long_of w ≡ Some (name, None) →
        settle_passes s.rules s.args_override_self h ≡ true → turn_passes s [] (between h position) w ≡ true
    alone_passes dashes long ok =
        ap₂ (λ a (met : Held × Step). a && step_passes s position met.0 met.1) (flag_passes None dashes long) (flag None dashes long) ∙
        ap (λ a. a && true) ok

  -- the value behind an option
  module _ (i : Text) (l : Option Text) (w : Text) (rows : List Row) (skip : ℕ) (position : ℕ) (at : arg_by_id s.rules i ≡ Some (single i l None)) (apart : IsNoFlag w) where
    abbrev pub waits : Held
    waits = record { rows = rows; pending = Some (i, []); skip = skip }

    abbrev pub has_value : Held
    has_value = record { rows = rows; pending = Some (i, w ∷ []); skip = skip }

    valued : option_word (arg_by_id s.rules i) i w waits ≡ (has_value, idle)
    valued =
        ap (λ o. option_word o i w waits) at ∙
        ap (λ b. (has_value, if nat_lt (if b then 1 else 0) 1 then option i else idle)) (same_self i)

    pub value_walked : walked s.rules [] (behind waits position i) w ≡ between has_value position
    unfolding walked
    value_walked =
        ap (λ (met : Held × Step). after_step s.rules w (behind waits position i) met.0 met.1) (no_flag w waits apart (option i) position) ∙
        ap (λ (met : Held × Waiting). after_step s.rules w (behind waits position i) met.0 (next met.1)) valued

    pub value_passes : turn_passes s [] (behind waits position i) w ≡ true
    value_passes =
        ap₂ (λ a (met : Held × Step). a && step_passes s position met.0 met.1) (no_flag_passes w waits apart) (no_flag w waits apart (option i) position)
