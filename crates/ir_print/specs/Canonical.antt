-- The canonical text of a module: named types, globals, declarations and functions, each in the module's order.
use Rattle.std.specs.Prelude.{ℕ, Bool, true, false, List, ◌++◌, codes, flat_map}
use Rattle.ir_core.specs.declared.ty.NamedTy.{NamedTy}
use Rattle.ir_core.specs.declared.module.Block.{Block}
use Rattle.ir_core.specs.declared.module.Param.{Param}
use Rattle.ir_core.specs.declared.module.Function.{Function}
use Rattle.ir_core.specs.declared.module.Extern.{Extern}
use Rattle.ir_core.specs.declared.module.GlobalVar.{GlobalVar}
use Rattle.ir_core.specs.declared.module.Module.{Module}
use Rattle.ir_print.specs.Names.{local_text, global_text, label_text, with_commas}
use Rattle.ir_print.specs.Types.{type_text}
use Rattle.ir_print.specs.Initialisers.{init_text}
use Rattle.ir_print.specs.Instructions.{inst_text}
use Rattle.ir_print.specs.Terminators.{end_text}

-- `%T = type { i32, ptr }`
unfoldable pub named_type_text : NamedTy → List ℕ
named_type_text t = local_text t.name ++ codes " = type " ++ type_text t.fields ++ codes "\n"

abbrev pub storage_word : Bool → List ℕ
storage_word true = codes "constant"
storage_word false = codes "global"

-- `@g = global i32 7`
unfoldable pub global_line : GlobalVar → List ℕ
global_line g = global_text g.name ++ codes " = " ++ storage_word g.constant ++ codes " " ++ type_text g.ty ++ codes " " ++ init_text g.init ++ codes "\n"

-- `declare i32 @f(i32, ptr)`
unfoldable pub extern_text : Extern → List ℕ
extern_text e = codes "declare " ++ type_text e.ret ++ codes " " ++ global_text e.name ++ codes "(" ++ with_commas type_text e.params ++ codes ")\n"

-- `i32 %x`
abbrev pub parameter_text : Param → List ℕ
parameter_text p = type_text p.ty ++ codes " " ++ local_text p.name

-- a block's label and its lines
unfoldable pub block_text : Block → List ℕ
block_text b = label_text b.label ++ codes "\n" ++ flat_map inst_text b.insts ++ end_text b.end

-- `define i32 @f(i32 %x) {`, the blocks, and `}`
unfoldable pub function_text : Function → List ℕ
function_text f =
    codes "define " ++ type_text f.ret ++ codes " " ++ global_text f.name ++ codes "(" ++ with_commas parameter_text f.params ++ codes ") {\n"
    ++ flat_map block_text f.blocks ++ codes "}\n"

abbrev pub canonical_text : Module → List ℕ
canonical_text m =
    flat_map named_type_text m.types ++ flat_map global_line m.globals ++ flat_map extern_text m.externs ++ flat_map function_text m.functions
