-- The generated module's text, from its number of functions.
use Rattle.std.specs.Prelude.{ℕ, ◌+◌, ◌-◌, ◌*◌, ◌/◌, ◌%◌, List, ◌++◌, codes, decimal}
use Rattle.std.specs.List.{flat_map, range_with_len}

-- what is declared, and the function that calls none
abbrev pub first_text : List ℕ
first_text = codes "declare i32 @putchar(i32)\ndefine i32 @f0(i32 %x) {\ne:\n  %a = mul i32 %x, 3\n  %b = add i32 %a, 1\n  ret i32 %b\n}\n"

-- what function i multiplies by
unfoldable pub factor : ℕ → ℕ
factor i = 2 * (i % 1000) + 3

-- what it adds
unfoldable pub summand : ℕ → ℕ
summand i = 7 * i + 1

-- the first lines of function i, with its multiplication
unfoldable pub start_text : ℕ → List ℕ
start_text i = codes "define i32 @f" ++ (decimal i ++ (codes "(i32 %x) {\ne:\n  %a = mul i32 %x, " ++ decimal (factor i)))

-- the others, with its sum and its call of the function of half its number
unfoldable pub call_text : ℕ → List ℕ
call_text i =
    codes "\n  %b = add i32 %a, " ++ (decimal (summand i) ++ (codes "\n  %c = call i32 @f" ++ (decimal (i / 2) ++
    codes "(i32 %b)\n  %d = xor i32 %c, %x\n  ret i32 %d\n}\n")))

-- function i
unfoldable pub caller_text : ℕ → List ℕ
caller_text i = start_text i ++ call_text i

-- `main`, which calls the last function a hundred times
unfoldable pub main_text : ℕ → List ℕ
main_text last =
    codes "define i32 @main() {\ne:\n  br label %h\nh:\n" ++ (codes "  %i = phi i32 [ 0, %e ], [ %j, %h ]\n  %r = call i32 @f" ++ (decimal last ++
    codes "(i32 %i)\n  %s = and i32 %r, 15\n  %t = add i32 %s, 65\n  %p = call i32 @putchar(i32 %t)\n  %j = add i32 %i, 1\n  %q = icmp eq i32 %j, 100\n  br i1 %q, label %z, label %h\nz:\n  ret i32 0\n}\n"))

-- all of it: the functions 0 to number - 1, and `main`
unfoldable pub workload_text : ℕ → List ℕ
workload_text number = first_text ++ (flat_map caller_text (range_with_len 1 (number - 1)) ++ main_text (number - 1))
