-- What classes begin with.
use Rattle.std.proofs.Common.{◌≡◌, [], ◌∷◌, refl, append-nil}
use Rattle.std.specs.Prelude.{codes}
use Rattle.ir_grammar.specs.Tokens.{word, local}
use Rattle.ir_grammar.specs.Reading.{first}
use Rattle.ir_syntax.specs.Types.{ty}
use Rattle.ir_syntax.specs.Words.{words_from, bin_word, cast_word}
use Rattle.ir_syntax.specs.Instructions.{index, binary, compare, cast, select, freeze, alloca, load, gep, phi, store, named_inst, void_inst}
use Rattle.ir_syntax.specs.Terminators.{target, case, ret, br, switch}
use Rattle.ir_syntax.proofs.FineTypes.{closed-ty}
use Rattle.ir_syntax.proofs.FineInstructions.{known-compare, known-select, known-freeze, known-alloca, known-load, known-gep, known-phi, known-store, known-named_inst, known-void_inst}

pub first_target : first target ≡ word (codes "label") ∷ []
unfolding target
first_target = refl

pub first_case : first case ≡ first ty
unfolding case
first_case = simp (closed-ty.some, append-nil)

pub first_ret : first ret ≡ word (codes "ret") ∷ []
unfolding ret
first_ret = refl

pub first_br : first br ≡ word (codes "br") ∷ []
unfolding br
first_br = refl

pub first_switch : first switch ≡ word (codes "switch") ∷ []
unfolding switch
first_switch = refl

pub first_index : first index ≡ first ty
unfolding index
first_index = simp (closed-ty.some, append-nil)

pub first_binary : first binary ≡ first bin_word
unfolding binary bin_word
first_binary = refl

pub first_compare : first compare ≡ word (codes "icmp") ∷ []
first_compare = known-compare.first_is

pub first_cast : first cast ≡ first cast_word
unfolding cast cast_word
first_cast = refl

pub first_select : first select ≡ word (codes "select") ∷ []
first_select = known-select.first_is

pub first_freeze : first freeze ≡ word (codes "freeze") ∷ []
first_freeze = known-freeze.first_is

pub first_alloca : first alloca ≡ word (codes "alloca") ∷ []
first_alloca = known-alloca.first_is

pub first_load : first load ≡ word (codes "load") ∷ []
first_load = known-load.first_is

pub first_gep : first gep ≡ word (codes "getelementptr") ∷ []
first_gep = known-gep.first_is

pub first_phi : first phi ≡ word (codes "phi") ∷ []
first_phi = known-phi.first_is

pub first_store : first store ≡ word (codes "store") ∷ []
first_store = known-store.first_is

pub first_named_inst : first named_inst ≡ local ∷ []
first_named_inst = known-named_inst.first_is

pub first_void_inst : first void_inst ≡ words_from [] (codes "store tail notail call")
first_void_inst = known-void_inst.first_is
