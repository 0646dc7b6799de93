-- Rows of instructions as bytes.
use Rattle.std.proofs.Common.{◌≡◌, ◌+◌, List, [], ◌∷◌, ◌++◌, length, refl, sym, ◌∙◌, ap, append_assoc, length-append}
use Rattle.x86_core.specs.declared.instr.Instr.{Instr}
use Rattle.x86_core.specs.Encoding.{encoding}
use Rattle.obj_core.specs.Object.{Each}
use Rattle.obj_core.specs.Disassembly.{spelled}

pub spelled-append : (xs ys : List Instr) → spelled (xs ++ ys) ≡ spelled xs ++ spelled ys
spelled-append [] ys = refl
spelled-append (x ∷ xs) ys = ap (λ r. encoding x ++ r) (spelled-append xs ys) ∙ sym (append_assoc (encoding x) (spelled xs) (spelled ys))

pub length-spelled-append : (xs ys : List Instr) → length (spelled (xs ++ ys)) ≡ length (spelled xs) + length (spelled ys)
length-spelled-append xs ys = ap length (spelled-append xs ys) ∙ length-append (spelled xs) (spelled ys)

pub each_append : {T : Type 0} (P : T → Type 0) (xs ys : List T) → Each P xs → Each P ys → Each P (xs ++ ys)
each_append P [] ys h k = k
each_append P (x ∷ xs) ys h k = (h.0, each_append P xs ys h.1 k)

pub each_left : {T : Type 0} (P : T → Type 0) (xs ys : List T) → Each P (xs ++ ys) → Each P xs
each_left P [] ys h = tt
each_left P (x ∷ xs) ys h = (h.0, each_left P xs ys h.1)

pub each_right : {T : Type 0} (P : T → Type 0) (xs ys : List T) → Each P (xs ++ ys) → Each P ys
each_right P [] ys h = h
each_right P (x ∷ xs) ys h = each_right P xs ys h.1
