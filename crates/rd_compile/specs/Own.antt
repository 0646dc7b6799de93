-- The homes and the names of registers: each register has a word of its own in its function's frame.
use Rattle.std.specs.Prelude.{ℕ, zero, suc, List, [], ◌∷◌, ◌++◌, map}
use Rattle.x86_core.specs.declared.reg.Reg.{Reg}
use Rattle.low_core.specs.declared.sel.Home.{Home}
use Rattle.low_core.specs.declared.sel.Home.TheVariants as home
use Rattle.low_core.specs.declared.sel.SelFun.{SelFun}
use Rattle.obj_core.specs.Saved.{name_of}

-- the first words of a frame, for so many registers
abbrev pub own_words : ℕ → List Home
own_words zero = []
own_words (suc n) = own_words n ++ home.Frame n ∷ []

-- those of functions
abbrev pub own_homes : List SelFun → List (List Home)
own_homes fs = map (λ (f : SelFun). own_words f.registers) fs

-- the five names of a function, by their colours
abbrev pub five_names : ℕ → ℕ → List Reg
five_names reg_seed n = name_of reg_seed n 0 ∷ name_of reg_seed n 1 ∷ name_of reg_seed n 2 ∷ name_of reg_seed n 3 ∷ name_of reg_seed n 4 ∷ []

-- those of so many functions
abbrev pub drawn_names : ℕ → ℕ → List (List Reg)
drawn_names reg_seed zero = []
drawn_names reg_seed (suc n) = drawn_names reg_seed n ++ five_names reg_seed n ∷ []
