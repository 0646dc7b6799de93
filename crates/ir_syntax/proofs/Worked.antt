-- What single texts say, as examples.
use Rattle.std.proofs.Common.{List, [], ◌∷◌, refl, Some, None}
use Rattle.std.specs.Prelude.{codes, ℕ, pos}
use Rattle.std.specs.Fmt.{digits}
use Rattle.rd_num.specs.declared.width.Width.TheVariants.{W32}
use Rattle.ir_lex.specs.declared.token.TokenKind.{TokenKind}
use Rattle.ir_lex.specs.declared.token.TokenKind.TheVariants as kind
use Rattle.ir_core.specs.declared.ty.Ty.{Ty}
use Rattle.ir_core.specs.declared.operand.Operand.{Operand}
use Rattle.ir_core.specs.declared.instruction.Op.{Op}
use Rattle.ir_core.specs.declared.instruction.Inst.{Inst}
use Rattle.ir_core.specs.declared.instruction.Term.{Term}
use Rattle.ir_core.specs.declared.module.Module.{Module}
use Rattle.ir_grammar.specs.Grammar.{Derives}
use Rattle.ir_grammar.proofs.Exact.{is_text}
use Rattle.ir_syntax.specs.Functions.{insts, block, labelled, body, declared_tail, defined_tail, define, declared, declare}
use Rattle.ir_syntax.specs.Initialisers.{element, simple_init, array_init, struct_init, packed_init, deep_init, init_at, init}
use Rattle.ir_syntax.specs.Instructions.{binary, compare, cast, select, freeze, counted, alloca_tail, alloca, load, index, index_rows, indices, gep, entry, entry_rows, entries, phi, call_word, call_head, callee, function_attribute, call_attribute, call_tail, call, op, store, void_callee, void_call, named_inst, void_inst, debug_inst, inst}
use Rattle.ir_syntax.specs.Items.{source_item, target_item, type_item, global_tail, global_item, attributes_item, metadata_item, item}
use Rattle.ir_syntax.specs.Metadata.{group, metadata, attach, attaches, align_tail}
use Rattle.ir_syntax.specs.ModuleText.{module_text}
use Rattle.ir_syntax.specs.Parameters.{pattr, param, params, declared_param, declared_params, arg, args}
use Rattle.ir_syntax.specs.Terminators.{target, ret, br, case, switch, unreachable, ending, term}
use Rattle.ir_syntax.specs.Types.{itype, simple_type, array_type, plain_struct, packed_struct, struct_type, type_at, ty, fields_type, rtype}
use Rattle.ir_syntax.specs.Values.{const_value, plain_value, place_index, place, fixed_value, value}
use Rattle.ir_syntax.specs.Words.{bin_word, cast_word, pred_word, flag, link, convention, parameter_word, function_word}
use Rattle.ir_syntax.proofs.FineModule.{fine-module_text}

-- a word
abbrev word : List ℕ → TokenKind
word w = kind.Word w

-- a punctuation mark
abbrev mark : ℕ → TokenKind
mark m = kind.Mark m

-- the word of a type
abbrev i32 : TokenKind
i32 = word (codes "i32")

-- `define i32 @main() { ret i32 7 }`
abbrev smallest_tokens : List TokenKind
smallest_tokens =
    word (codes "define") ∷ i32 ∷ kind.Global (codes "main") ∷ mark 40 ∷ mark 41 ∷ mark 123 ∷ word (codes "ret") ∷ i32 ∷ kind.Int (pos 7) ∷ mark 125 ∷ []

-- one function, whose block has no label and is named by a number
abbrev smallest : Module
smallest = record {
  types = [];
  globals = [];
  externs = [];
  functions =
      record {
        name = codes "main";
        ret = Ty.Int W32;
        params = [];
        blocks = record { label = codes "0"; insts = []; end = Term.RetValue (Ty.Int W32) (Operand.Int (pos 7)) } ∷ [];
      }
      ∷ [];
}

-- these tokens say that module
smallest_text : Derives module_text smallest smallest_tokens
unfolding digits insts block labelled body declared_tail defined_tail define declared declare element simple_init array_init struct_init packed_init deep_init init_at init binary compare cast select freeze counted alloca_tail alloca load index index_rows indices gep entry entry_rows entries phi call_word call_head callee function_attribute call_attribute call_tail call op store void_callee void_call named_inst void_inst debug_inst inst source_item target_item type_item global_tail global_item attributes_item metadata_item item group metadata attach attaches align_tail module_text pattr param params declared_param declared_params arg args target ret br case switch unreachable ending term itype simple_type array_type plain_struct packed_struct struct_type type_at ty fields_type rtype const_value plain_value place_index place fixed_value value bin_word cast_word pred_word flag link convention parameter_word function_word
smallest_text = is_text module_text fine-module_text smallest smallest_tokens refl

-- a local
abbrev local : List ℕ → TokenKind
local name = kind.Local name

-- a number that isn't below 0
abbrev int : ℕ → TokenKind
int n = kind.Int (pos n)

-- `define dso_local i32 @main() #0 {`, `%1 = alloca i32, align 4`, `store i32 0, ptr %1, align 4`,
-- `%2 = call i32 @putchar(i32 noundef 72)`, `ret i32 0`, `}`, `declare i32 @putchar(i32 noundef) #1`,
-- `attributes #0 = { nounwind }`, `!0 = !{i32 1}`
abbrev small_tokens : List TokenKind
small_tokens =
    word (codes "define") ∷ word (codes "dso_local") ∷ i32 ∷ kind.Global (codes "main") ∷ mark 40 ∷ mark 41 ∷ kind.Hash (codes "0") ∷ mark 123
    ∷ local (codes "1") ∷ mark 61 ∷ word (codes "alloca") ∷ i32 ∷ mark 44 ∷ word (codes "align") ∷ int 4
    ∷ word (codes "store") ∷ i32 ∷ int 0 ∷ mark 44 ∷ word (codes "ptr") ∷ local (codes "1") ∷ mark 44 ∷ word (codes "align") ∷ int 4
    ∷ local (codes "2") ∷ mark 61 ∷ word (codes "call") ∷ i32 ∷ kind.Global (codes "putchar") ∷ mark 40 ∷ i32 ∷ word (codes "noundef") ∷ int 72 ∷ mark 41
    ∷ word (codes "ret") ∷ i32 ∷ int 0 ∷ mark 125
    ∷ word (codes "declare") ∷ i32 ∷ kind.Global (codes "putchar") ∷ mark 40 ∷ i32 ∷ word (codes "noundef") ∷ mark 41 ∷ kind.Hash (codes "1")
    ∷ word (codes "attributes") ∷ kind.Hash (codes "0") ∷ mark 61 ∷ mark 123 ∷ word (codes "nounwind") ∷ mark 125
    ∷ kind.Meta (codes "0") ∷ mark 61 ∷ kind.Meta [] ∷ mark 123 ∷ i32 ∷ int 1 ∷ mark 125 ∷ []

-- a 32-bit number
abbrev number : Ty
number = Ty.Int W32

-- what its instructions are, without alignments and attributes
abbrev small_insts : List Inst
small_insts =
    record { result = Some (codes "1"); op = Op.Alloca number 1 }
    ∷ record { result = None; op = Op.Store number (Operand.Int (pos 0)) (Operand.Local (codes "1")) }
    ∷ record {
      result = Some (codes "2");
      op = Op.Call number (Operand.Global (codes "putchar")) (record { ty = number; value = Operand.Int (pos 72) } ∷ []);
    }
    ∷ []

-- a function and a declaration; of the rest nothing is left
abbrev small : Module
small = record {
  types = [];
  globals = [];
  externs = record { name = codes "putchar"; ret = number; params = number ∷ [] } ∷ [];
  functions =
      record {
        name = codes "main";
        ret = number;
        params = [];
        blocks = record { label = codes "0"; insts = small_insts; end = Term.RetValue number (Operand.Int (pos 0)) } ∷ [];
      }
      ∷ [];
}

-- these tokens say that module
small_text : Derives module_text small small_tokens
unfolding digits insts block labelled body declared_tail defined_tail define declared declare element simple_init array_init struct_init packed_init deep_init init_at init binary compare cast select freeze counted alloca_tail alloca load index index_rows indices gep entry entry_rows entries phi call_word call_head callee function_attribute call_attribute call_tail call op store void_callee void_call named_inst void_inst debug_inst inst source_item target_item type_item global_tail global_item attributes_item metadata_item item group metadata attach attaches align_tail module_text pattr param params declared_param declared_params arg args target ret br case switch unreachable ending term itype simple_type array_type plain_struct packed_struct struct_type type_at ty fields_type rtype const_value plain_value place_index place fixed_value value bin_word cast_word pred_word flag link convention parameter_word function_word
small_text = is_text module_text fine-module_text small small_tokens refl
