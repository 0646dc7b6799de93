-- The words of operations read back.
use Rattle.std.proofs.Common.{refl, inl, inr, ◌++◌}
use Rattle.std.specs.Prelude.{codes}
use Rattle.ir_core.specs.declared.instruction.BinOp.{BinOp}
use Rattle.ir_core.specs.declared.instruction.BinOp.TheVariants.{Add, Sub, Mul, Udiv, Sdiv, Urem, Srem, Shl, Lshr, Ashr, And, Or, Xor}
use Rattle.ir_core.specs.declared.instruction.Pred.{Pred}
use Rattle.ir_core.specs.declared.instruction.Pred.TheVariants.{Eq, Ne, Ult, Ule, Ugt, Uge, Slt, Sle, Sgt, Sge}
use Rattle.ir_core.specs.declared.instruction.CastOp.{CastOp}
use Rattle.ir_core.specs.declared.instruction.CastOp.TheVariants.{Trunc, Zext, Sext}
use Rattle.ir_lex.specs.declared.token.TokenKind.TheVariants.{Word}
use Rattle.ir_lex.specs.Tokens.{is_run_byte, is_separator, is_mark}
use Rattle.ir_syntax.specs.Words.{bin_word, pred_word, cast_word}
use Rattle.ir_print.specs.Instructions.{operation_word, predicate_word}
use Rattle.ir_print.specs.Instructions as texts
use Rattle.ir_print.proofs.Derivations.{Shut, one_shut}
use Rattle.ir_print.proofs.Singles.{at_word}

-- arithmetic
pub bin_reads : (op : BinOp) → Shut bin_word op (operation_word op ++ codes " ")
unfolding bin_word is_run_byte is_separator is_mark
bin_reads Add = one_shut (codes "add ") (Word (codes "add")) refl refl (inl (at_word (codes "add") Add refl))
bin_reads Sub = one_shut (codes "sub ") (Word (codes "sub")) refl refl (inr (inl (at_word (codes "sub") Sub refl)))
bin_reads Mul = one_shut (codes "mul ") (Word (codes "mul")) refl refl (inr (inr (inl (at_word (codes "mul") Mul refl))))
bin_reads Udiv = one_shut (codes "udiv ") (Word (codes "udiv")) refl refl (inr (inr (inr (inl (at_word (codes "udiv") Udiv refl)))))
bin_reads Sdiv = one_shut (codes "sdiv ") (Word (codes "sdiv")) refl refl (inr (inr (inr (inr (inl (at_word (codes "sdiv") Sdiv refl))))))
bin_reads Urem = one_shut (codes "urem ") (Word (codes "urem")) refl refl (inr (inr (inr (inr (inr (inl (at_word (codes "urem") Urem refl)))))))
bin_reads Srem = one_shut (codes "srem ") (Word (codes "srem")) refl refl (inr (inr (inr (inr (inr (inr (inl (at_word (codes "srem") Srem refl))))))))
bin_reads Shl = one_shut (codes "shl ") (Word (codes "shl")) refl refl (inr (inr (inr (inr (inr (inr (inr (inl (at_word (codes "shl") Shl refl)))))))))
bin_reads Lshr = one_shut (codes "lshr ") (Word (codes "lshr")) refl refl (inr (inr (inr (inr (inr (inr (inr (inr (inl (at_word (codes "lshr") Lshr refl))))))))))
bin_reads Ashr = one_shut (codes "ashr ") (Word (codes "ashr")) refl refl (inr (inr (inr (inr (inr (inr (inr (inr (inr (inl (at_word (codes "ashr") Ashr refl)))))))))))
bin_reads And = one_shut (codes "and ") (Word (codes "and")) refl refl (inr (inr (inr (inr (inr (inr (inr (inr (inr (inr (inl (at_word (codes "and") And refl))))))))))))
bin_reads Or = one_shut (codes "or ") (Word (codes "or")) refl refl (inr (inr (inr (inr (inr (inr (inr (inr (inr (inr (inr (inl (at_word (codes "or") Or refl)))))))))))))
bin_reads Xor = one_shut (codes "xor ") (Word (codes "xor")) refl refl (inr (inr (inr (inr (inr (inr (inr (inr (inr (inr (inr (inr (at_word (codes "xor") Xor refl)))))))))))))

-- comparisons
pub pred_reads : (p : Pred) → Shut pred_word p (predicate_word p ++ codes " ")
unfolding pred_word is_run_byte is_separator is_mark
pred_reads Eq = one_shut (codes "eq ") (Word (codes "eq")) refl refl (inl (at_word (codes "eq") Eq refl))
pred_reads Ne = one_shut (codes "ne ") (Word (codes "ne")) refl refl (inr (inl (at_word (codes "ne") Ne refl)))
pred_reads Ult = one_shut (codes "ult ") (Word (codes "ult")) refl refl (inr (inr (inl (at_word (codes "ult") Ult refl))))
pred_reads Ule = one_shut (codes "ule ") (Word (codes "ule")) refl refl (inr (inr (inr (inl (at_word (codes "ule") Ule refl)))))
pred_reads Ugt = one_shut (codes "ugt ") (Word (codes "ugt")) refl refl (inr (inr (inr (inr (inl (at_word (codes "ugt") Ugt refl))))))
pred_reads Uge = one_shut (codes "uge ") (Word (codes "uge")) refl refl (inr (inr (inr (inr (inr (inl (at_word (codes "uge") Uge refl)))))))
pred_reads Slt = one_shut (codes "slt ") (Word (codes "slt")) refl refl (inr (inr (inr (inr (inr (inr (inl (at_word (codes "slt") Slt refl))))))))
pred_reads Sle = one_shut (codes "sle ") (Word (codes "sle")) refl refl (inr (inr (inr (inr (inr (inr (inr (inl (at_word (codes "sle") Sle refl)))))))))
pred_reads Sgt = one_shut (codes "sgt ") (Word (codes "sgt")) refl refl (inr (inr (inr (inr (inr (inr (inr (inr (inl (at_word (codes "sgt") Sgt refl))))))))))
pred_reads Sge = one_shut (codes "sge ") (Word (codes "sge")) refl refl (inr (inr (inr (inr (inr (inr (inr (inr (inr (at_word (codes "sge") Sge refl))))))))))

-- casts
pub cast_reads : (c : CastOp) → Shut cast_word c (texts.cast_word c ++ codes " ")
unfolding cast_word is_run_byte is_separator is_mark
cast_reads Trunc = one_shut (codes "trunc ") (Word (codes "trunc")) refl refl (inl (at_word (codes "trunc") Trunc refl))
cast_reads Zext = one_shut (codes "zext ") (Word (codes "zext")) refl refl (inr (inl (at_word (codes "zext") Zext refl)))
cast_reads Sext = one_shut (codes "sext ") (Word (codes "sext")) refl refl (inr (inr (at_word (codes "sext") Sext refl)))
