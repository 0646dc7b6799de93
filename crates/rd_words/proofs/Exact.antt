-- What is read of words is exactly what they ask for.
use Rattle.std.proofs.Common.{◌≡◌, ℕ, ◌+◌, Bool, true, false, List, [], ◌∷◌, length, Option, Some, None, refl, sym, ◌∙◌, ap, subst, arith}
use Rattle.std.specs.Prelude.{◌&&◌, if◌then◌else◌, nat_eq, nat_le, codes}
use Rattle.std.specs.Cmp.Lexicographic.{same_text}
use Rattle.std.proofs.lemmas.Bool.{eqb-true}
use Rattle.std.proofs.lemmas.Bool.Decides.{nat_tests}
use Rattle.rd_words.specs.Arguments.{Argument, File, Given, same, files, values, IsLine}
use Rattle.rd_words.specs.Words.{Reading, Compile, Build, Lay, Run, Show, Eval, Watch, Check, Print, Certify, Gen, IsWorkload, number_of, IsReading, IsReadingOf}
use Rattle.rd_words.specs.Read.{arguments_of, only, file_behind, value_behind, count_behind, if_number, are, FileNumber, with_one, with_two, with_three, with_file, file_and_number, ask, file_alone, ask_file, ask_workload, by_command, reading_of}
use Rattle.rd_words.proofs.Parts.{arguments_are, arguments_back}

same_is : (xs ys : List ℕ) → same xs ys ≡ true → xs ≡ ys
same_is xs ys h = same_text xs ys (sym h)

passed : {T : Type 0} (b : Bool) (o : Option T) (x : T) → (if b then o else None) ≡ Some x → (b ≡ true) × (o ≡ Some x)
passed true o x h = (refl, h)
passed false o x h = absurd (cc)

only_is : (xs : List (List ℕ)) (x : List ℕ) → only xs ≡ Some x → xs ≡ x ∷ []
only_is [] x h = absurd (cc)
only_is (y ∷ []) x h = let e : y ≡ x = cc in ap (λ z. z ∷ []) e
only_is (y ∷ z ∷ rest) x h = absurd (cc)

count_is : (n m : ℕ) → nat_eq (0 + n) m ≡ true → n ≡ m
count_is n m h = grind (arith, nat_tests, eqb-true (0 + n) m h)

count_back : (n m : ℕ) → n ≡ m → nat_eq (0 + n) m ≡ true
count_back n m h = grind (arith, nat_tests)

-- an option that is given one value, which is a number
record Numbered (option : List ℕ) (args : List Argument) (n : ℕ) : Type 0 where
  word : List ℕ
  once : values option args ≡ word ∷ []
  number : number_of word ≡ Some n

numbered : (option : List ℕ) (args : List Argument) (n : ℕ) → if_number (only (values option args)) ≡ Some n → Numbered option args n
numbered option args n h = by (only (values option args)) refl h
  where
    by : (o : Option (List ℕ)) → only (values option args) ≡ o → if_number o ≡ Some n → Numbered option args n
    by None e k = absurd (cc)
    by (Some w) e k = record { word = w; once = only_is (values option args) w e; number = k }

number_back : (option : List ℕ) (args : List Argument) (word : List ℕ) (n : ℕ) → values option args ≡ word ∷ [] → number_of word ≡ Some n → if_number (only (values option args)) ≡ Some n
number_back option args word n h k = ap (λ xs. if_number (only xs)) h ∙ k

-- what commands with values came from
two_is : (f : Option (List ℕ)) (x y : Option ℕ) (r : Reading) → with_two f x y ≡ Some r → (file : List ℕ) × (a : ℕ) × (b : ℕ) × ((f ≡ Some file) × (x ≡ Some a) × (y ≡ Some b) × (Compile file a b ≡ r))
two_is (Some file) (Some a) (Some b) r h = (file, a, b, (refl, refl, refl, cc))
two_is None x y r h = absurd (cc)
two_is (Some file) None y r h = absurd (cc)
two_is (Some file) (Some a) None r h = absurd (cc)

three_is : (f : Option (List ℕ)) (x y z : Option ℕ) (r : Reading) → with_three f x y z ≡ Some r → (file : List ℕ) × (a : ℕ) × (b : ℕ) × (c : ℕ) × ((f ≡ Some file) × (x ≡ Some a) × (y ≡ Some b) × (z ≡ Some c) × (Build file a b c ≡ r))
three_is (Some file) (Some a) (Some b) (Some c) r h = (file, a, b, c, (refl, refl, refl, refl, cc))
three_is None x y z r h = absurd (cc)
three_is (Some file) None y z r h = absurd (cc)
three_is (Some file) (Some a) None z r h = absurd (cc)
three_is (Some file) (Some a) (Some b) None r h = absurd (cc)

one_is : (f : Option (List ℕ)) (x : Option ℕ) (r : FileNumber) → with_one f x ≡ Some r → (f ≡ Some r.file) × (x ≡ Some r.number)
one_is (Some file) (Some n) r h =
    let y : FileNumber = record { file = file; number = n } in
    let same : y ≡ r = cc in
    (ap (λ (z : FileNumber). Some z.file) same, ap (λ (z : FileNumber). Some z.number) same)
one_is None x r h = absurd (cc)
one_is (Some file) None r h = absurd (cc)

file_is : (f g : Option (List ℕ)) (r : Reading) → with_file f g ≡ Some r → (file : List ℕ) × (script : List ℕ) × ((f ≡ Some file) × (g ≡ Some script) × (Watch file script ≡ r))
file_is (Some file) (Some script) r h = (file, script, (refl, refl, cc))
file_is None g r h = absurd (cc)
file_is (Some file) None r h = absurd (cc)

module _ (rest : List (List ℕ)) where
  compile_is : (o : Option (List Argument)) (r : Reading) → arguments_of rest ≡ o → (if are (count_behind 0 o) 3 then with_two (file_behind [] o) (if_number (value_behind (codes "--slot-seed") [] o)) (if_number (value_behind (codes "--reg-seed") [] o)) else None) ≡ Some r → IsReading (codes "compile" ∷ rest) r
  compile_is None r e h = absurd (cc)
  compile_is (Some args) r e h =
      let p = passed (nat_eq (0 + length args) 3) _ r h in
      let t = two_is (only (files args)) (if_number (only (values (codes "--slot-seed") args))) (if_number (only (values (codes "--reg-seed") args))) r p.1 in
      let a = numbered (codes "--slot-seed") args t.1 t.3.1 in
      let b = numbered (codes "--reg-seed") args t.2 t.3.2 in
      subst (IsReading (codes "compile" ∷ rest)) t.3.3 (
        a.word,
        b.word,
        (
          record {
            others = rest;
            command_first = refl;
            args = args;
            spelled = arguments_are rest args e;
            each_once = (only_is (files args) t.0 t.3.0, (a.once, (b.once, tt)));
            no_more = count_is (length args) 3 p.0;
          },
          a.number,
          b.number,
        ),
      )

  build_is : (o : Option (List Argument)) (r : Reading) → arguments_of rest ≡ o → (if are (count_behind 0 o) 4 then with_three (file_behind [] o) (if_number (value_behind (codes "--slot-seed") [] o)) (if_number (value_behind (codes "--reg-seed") [] o)) (if_number (value_behind (codes "--layout-seed") [] o)) else None) ≡ Some r → IsReading (codes "build" ∷ rest) r
  build_is None r e h = absurd (cc)
  build_is (Some args) r e h =
      let p = passed (nat_eq (0 + length args) 4) _ r h in
      let t = three_is (only (files args)) (if_number (only (values (codes "--slot-seed") args))) (if_number (only (values (codes "--reg-seed") args))) (if_number (only (values (codes "--layout-seed") args))) r p.1 in
      let a = numbered (codes "--slot-seed") args t.1 t.4.1 in
      let b = numbered (codes "--reg-seed") args t.2 t.4.2 in
      let c = numbered (codes "--layout-seed") args t.3 t.4.3 in
      subst (IsReading (codes "build" ∷ rest)) t.4.4 (
        a.word,
        b.word,
        c.word,
        (
          record {
            others = rest;
            command_first = refl;
            args = args;
            spelled = arguments_are rest args e;
            each_once = (only_is (files args) t.0 t.4.0, (a.once, (b.once, (c.once, tt))));
            no_more = count_is (length args) 4 p.0;
          },
          a.number,
          b.number,
          c.number,
        ),
      )

  watch_is : (o : Option (List Argument)) (r : Reading) → arguments_of rest ≡ o → (if are (count_behind 0 o) 2 then with_file (file_behind [] o) (value_behind (codes "--script") [] o) else None) ≡ Some r → IsReading (codes "watch" ∷ rest) r
  watch_is None r e h = absurd (cc)
  watch_is (Some args) r e h =
      let p = passed (nat_eq (0 + length args) 2) _ r h in
      let t = file_is (only (files args)) (only (values (codes "--script") args)) r p.1 in
      subst (IsReading (codes "watch" ∷ rest)) t.2.2 (record {
        others = rest;
        command_first = refl;
        args = args;
        spelled = arguments_are rest args e;
        each_once = (only_is (files args) t.0 t.2.0, (only_is (values (codes "--script") args) t.1 t.2.1, tt));
        no_more = count_is (length args) 2 p.0;
      })

  -- a line with a file and a number
  record OneLine (command option : List ℕ) (x : FileNumber) : Type 0 where
    word : List ℕ
    line : IsLine (command ∷ rest) command (File x.file ∷ Given option word ∷ [])
    number : number_of word ≡ Some x.number

  one_line : (command option : List ℕ) (o : Option (List Argument)) (x : FileNumber) → arguments_of rest ≡ o → (if are (count_behind 0 o) 2 then with_one (file_behind [] o) (if_number (value_behind option [] o)) else None) ≡ Some x → OneLine command option x
  one_line command option None x e h = absurd (cc)
  one_line command option (Some args) x e h =
      let p = passed (nat_eq (0 + length args) 2) _ x h in
      let t = one_is (only (files args)) (if_number (only (values option args))) x p.1 in
      let a = numbered option args x.number t.1 in
      record {
        word = a.word;
        line = record {
          others = rest;
          command_first = refl;
          args = args;
          spelled = arguments_are rest args e;
          each_once = (only_is (files args) x.file t.0, (a.once, tt));
          no_more = count_is (length args) 2 p.0;
        };
        number = a.number;
      }

asked_is : (make : List ℕ → ℕ → Reading) (o : Option FileNumber) (r : Reading) → ask make o ≡ Some r → (x : FileNumber) × (o ≡ Some x) × (make x.file x.number ≡ r)
asked_is make None r h = absurd (cc)
asked_is make (Some x) r h = (x, refl, cc)

-- a file alone
module _ (rest : List (List ℕ)) (command : List ℕ) where
  alone_is : (o : Option (List Argument)) (name : List ℕ) → arguments_of rest ≡ o → (if are (count_behind 0 o) 1 then file_behind [] o else None) ≡ Some name → IsLine (command ∷ rest) command (File name ∷ [])
  alone_is None name e h = absurd (cc)
  alone_is (Some args) name e h =
      let p = passed (nat_eq (0 + length args) 1) _ name h in
      record { others = rest; command_first = refl; args = args; spelled = arguments_are rest args e; each_once = (only_is (files args) name p.1, tt); no_more = count_is (length args) 1 p.0 }

-- a number within the limits
workload_is : (b : Bool) (n : ℕ) (r : Reading) → nat_le 1 n && nat_le n 4000 ≡ b → (if b then Some (Gen n) else None) ≡ Some r → IsWorkload n × (Gen n ≡ r)
workload_is true n r e h = (record { some = grind (arith, nat_tests, e); most = grind (arith, nat_tests, e) }, cc)
workload_is false n r e h = absurd (cc)

number_asked : (o : Option ℕ) (r : Reading) → ask_workload o ≡ Some r → (n : ℕ) × (o ≡ Some n) × IsWorkload n × (Gen n ≡ r)
number_asked None r h = absurd (cc)
number_asked (Some n) r h = let w = workload_is (nat_le 1 n && nat_le n 4000) n r refl h in (n, refl, w.0, w.1)

within : (n : ℕ) → IsWorkload n → nat_le 1 n && nat_le n 4000 ≡ true
within n w = let a = w.some in let b = w.most in grind (arith, nat_tests, a, b)

workload_back : (o : Option ℕ) (n : ℕ) → o ≡ Some n → IsWorkload n → ask_workload o ≡ Some (Gen n)
workload_back o n e w = ap ask_workload e ∙ ap (λ b. if b then Some (Gen n) else None) (within n w)

-- a number alone
module _ (rest : List (List ℕ)) where
  gen_is : (o : Option (List Argument)) (r : Reading) → arguments_of rest ≡ o → (if are (count_behind 0 o) 1 then ask_workload (if_number (value_behind (codes "--number") [] o)) else None) ≡ Some r → IsReading (codes "gen" ∷ rest) r
  gen_is None r e h = absurd (cc)
  gen_is (Some args) r e h =
      let p = passed (nat_eq (0 + length args) 1) _ r h in
      let t = number_asked (if_number (only (values (codes "--number") args))) r p.1 in
      let a = numbered (codes "--number") args t.0 t.1 in
      subst (IsReading (codes "gen" ∷ rest)) t.3 (
        a.word,
        (
          record { others = rest; command_first = refl; args = args; spelled = arguments_are rest args e; each_once = (a.once, tt); no_more = count_is (length args) 1 p.0 },
          a.number,
          t.2,
        ),
      )

file_asked : (make : List ℕ → Reading) (o : Option (List ℕ)) (r : Reading) → ask_file make o ≡ Some r → (x : List ℕ) × (o ≡ Some x) × (make x ≡ r)
file_asked make None r h = absurd (cc)
file_asked make (Some x) r h = (x, refl, cc)

-- what a command is asked for, where it is one of several
chosen : (command name : List ℕ) (rest : List (List ℕ)) (o other : Option Reading) (r : Reading) → (if same command name then o else other) ≡ Some r
    → (o ≡ Some r → IsReading (name ∷ rest) r) → (other ≡ Some r → IsReading (command ∷ rest) r) → IsReading (command ∷ rest) r
chosen command name rest o other r h here there = by (same command name) refl h
  where
    by : (b : Bool) → same command name ≡ b → (if b then o else other) ≡ Some r → IsReading (command ∷ rest) r
    by true e k = subst (λ w. IsReading (w ∷ rest) r) (sym (same_is command name e)) (here k)
    by false e k = there k

module _ (rest : List (List ℕ)) (r : Reading) where
  lay_is : ask Lay (file_and_number (codes "--layout-seed") rest) ≡ Some r → IsReading (codes "lay" ∷ rest) r
  lay_is k =
      let x = asked_is Lay (file_and_number (codes "--layout-seed") rest) r k in
      let l = one_line rest (codes "lay") (codes "--layout-seed") (arguments_of rest) x.0 refl x.1 in
      subst (IsReading (codes "lay" ∷ rest)) x.2 (l.word, (l.line, l.number))

  run_is : ask Run (file_and_number (codes "--steps") rest) ≡ Some r → IsReading (codes "run" ∷ rest) r
  run_is k =
      let x = asked_is Run (file_and_number (codes "--steps") rest) r k in
      let l = one_line rest (codes "run") (codes "--steps") (arguments_of rest) x.0 refl x.1 in
      subst (IsReading (codes "run" ∷ rest)) x.2 (l.word, (l.line, l.number))

  show_is : ask Show (file_and_number (codes "--steps") rest) ≡ Some r → IsReading (codes "show" ∷ rest) r
  show_is k =
      let x = asked_is Show (file_and_number (codes "--steps") rest) r k in
      let l = one_line rest (codes "show") (codes "--steps") (arguments_of rest) x.0 refl x.1 in
      subst (IsReading (codes "show" ∷ rest)) x.2 (l.word, (l.line, l.number))

  eval_is : ask Eval (file_and_number (codes "--steps") rest) ≡ Some r → IsReading (codes "eval" ∷ rest) r
  eval_is k =
      let x = asked_is Eval (file_and_number (codes "--steps") rest) r k in
      let l = one_line rest (codes "eval") (codes "--steps") (arguments_of rest) x.0 refl x.1 in
      subst (IsReading (codes "eval" ∷ rest)) x.2 (l.word, (l.line, l.number))

  check_is : ask_file Check (file_alone rest) ≡ Some r → IsReading (codes "check" ∷ rest) r
  check_is k =
      let x = file_asked Check (file_alone rest) r k in
      subst (IsReading (codes "check" ∷ rest)) x.2 (alone_is rest (codes "check") (arguments_of rest) x.0 refl x.1)

  print_is : ask_file Print (file_alone rest) ≡ Some r → IsReading (codes "print" ∷ rest) r
  print_is k =
      let x = file_asked Print (file_alone rest) r k in
      subst (IsReading (codes "print" ∷ rest)) x.2 (alone_is rest (codes "print") (arguments_of rest) x.0 refl x.1)

  certify_is : ask_file Certify (file_alone rest) ≡ Some r → IsReading (codes "certify" ∷ rest) r
  certify_is k =
      let x = file_asked Certify (file_alone rest) r k in
      subst (IsReading (codes "certify" ∷ rest)) x.2 (alone_is rest (codes "certify") (arguments_of rest) x.0 refl x.1)

command_is : (command : List ℕ) (rest : List (List ℕ)) (r : Reading) → by_command command rest ≡ Some r → IsReading (command ∷ rest) r
command_is command rest r h =
    chosen command (codes "compile") rest _ _ r h (compile_is rest (arguments_of rest) r refl) (λ h1.
    chosen command (codes "build") rest _ _ r h1 (build_is rest (arguments_of rest) r refl) (λ h2.
    chosen command (codes "lay") rest _ _ r h2 (lay_is rest r) (λ h3.
    chosen command (codes "run") rest _ _ r h3 (run_is rest r) (λ h4.
    chosen command (codes "show") rest _ _ r h4 (show_is rest r) (λ h5.
    chosen command (codes "eval") rest _ _ r h5 (eval_is rest r) (λ h6.
    chosen command (codes "watch") rest _ _ r h6 (watch_is rest (arguments_of rest) r refl) (λ h7.
    chosen command (codes "check") rest _ _ r h7 (check_is rest r) (λ h8.
    chosen command (codes "print") rest _ _ r h8 (print_is rest r) (λ h9.
    chosen command (codes "certify") rest _ _ r h9 (certify_is rest r) (λ h10.
    chosen command (codes "gen") rest _ _ r h10 (gen_is rest (arguments_of rest) r refl) (λ h11. absurd (cc))))))))))))

reading_is : (words : List (List ℕ)) (r : Reading) → reading_of words ≡ Some r → IsReading words r
reading_is [] r h = absurd (cc)
reading_is (command ∷ rest) r h = command_is command rest r h

two_form : (b : Bool) (f : Option (List ℕ)) (x y : Option ℕ) (file : List ℕ) (m n : ℕ) → b ≡ true → f ≡ Some file → x ≡ Some m → y ≡ Some n → (if b then with_two f x y else None) ≡ Some (Compile file m n)
two_form b f x y file m n eb ef ex ey = rw (eb, ef, ex, ey) refl

three_form : (b : Bool) (f : Option (List ℕ)) (x y z : Option ℕ) (file : List ℕ) (m n k : ℕ) → b ≡ true → f ≡ Some file → x ≡ Some m → y ≡ Some n → z ≡ Some k → (if b then with_three f x y z else None) ≡ Some (Build file m n k)
three_form b f x y z file m n k eb ef ex ey ez = rw (eb, ef, ex, ey, ez) refl

one_form : (b : Bool) (f : Option (List ℕ)) (x : Option ℕ) (file : List ℕ) (n : ℕ) → b ≡ true → f ≡ Some file → x ≡ Some n → (if b then with_one f x else None) ≡ Some (record { file = file; number = n })
one_form b f x file n eb ef ex = rw (eb, ef, ex) refl

file_form : (b : Bool) (f g : Option (List ℕ)) (file script : List ℕ) → b ≡ true → f ≡ Some file → g ≡ Some script → (if b then with_file f g else None) ≡ Some (Watch file script)
file_form b f g file script eb ef eg = rw (eb, ef, eg) refl

alone_form : (b : Bool) (f : Option (List ℕ)) (file : List ℕ) → b ≡ true → f ≡ Some file → (if b then f else None) ≡ Some file
alone_form b f file eb ef = rw (eb, ef) refl

gen_form : (b : Bool) (x : Option ℕ) (n : ℕ) → b ≡ true → x ≡ Some n → IsWorkload n → (if b then ask_workload x else None) ≡ Some (Gen n)
gen_form b x n eb ex w = ap (λ c. if c then ask_workload x else None) eb ∙ workload_back x n ex w

-- what a line with a file alone gives
alone_back : (words : List (List ℕ)) (command file : List ℕ) → (l : IsLine words command (File file ∷ [])) → file_alone l.others ≡ Some file
alone_back words command file l =
    ap (λ o. if are (count_behind 0 o) 1 then file_behind [] o else None) (arguments_back l.args l.others l.spelled) ∙
    alone_form _ _ file (count_back (length l.args) 1 l.no_more) (ap only l.each_once.0)

-- what a line with a file and a number gives
one_back : (words : List (List ℕ)) (command option file word : List ℕ) (n : ℕ) → (l : IsLine words command (File file ∷ Given option word ∷ [])) → number_of word ≡ Some n → file_and_number option l.others ≡ Some (record { file = file; number = n })
one_back words command option file word n l k =
    ap (λ o. if are (count_behind 0 o) 2 then with_one (file_behind [] o) (if_number (value_behind option [] o)) else None) (arguments_back l.args l.others l.spelled) ∙
    one_form _ _ _ file n (count_back (length l.args) 2 l.no_more) (ap only l.each_once.0) (number_back option l.args word n l.each_once.1.0 k)

reading_back : (words : List (List ℕ)) (r : Reading) → IsReading words r → reading_of words ≡ Some r
reading_back words (Compile file m n) (a, b, h) =
    let l = h.0 in
    ap reading_of l.command_first ∙
    (ap (λ o. if are (count_behind 0 o) 3 then with_two (file_behind [] o) (if_number (value_behind (codes "--slot-seed") [] o)) (if_number (value_behind (codes "--reg-seed") [] o)) else None) (arguments_back l.args l.others l.spelled) ∙
    two_form _ _ _ _ file m n (count_back (length l.args) 3 l.no_more) (ap only l.each_once.0) (number_back (codes "--slot-seed") l.args a m l.each_once.1.0 h.1) (number_back (codes "--reg-seed") l.args b n l.each_once.1.1.0 h.2))
reading_back words (Build file m n k) (a, b, c, h) =
    let l = h.0 in
    ap reading_of l.command_first ∙
    (ap (λ o. if are (count_behind 0 o) 4 then with_three (file_behind [] o) (if_number (value_behind (codes "--slot-seed") [] o)) (if_number (value_behind (codes "--reg-seed") [] o)) (if_number (value_behind (codes "--layout-seed") [] o)) else None) (arguments_back l.args l.others l.spelled) ∙
    three_form _ _ _ _ _ file m n k (count_back (length l.args) 4 l.no_more) (ap only l.each_once.0) (number_back (codes "--slot-seed") l.args a m l.each_once.1.0 h.1) (number_back (codes "--reg-seed") l.args b n l.each_once.1.1.0 h.2) (number_back (codes "--layout-seed") l.args c k l.each_once.1.1.1.0 h.3))
reading_back words (Lay file n) (a, h) = ap reading_of h.0.command_first ∙ ap (ask Lay) (one_back words (codes "lay") (codes "--layout-seed") file a n h.0 h.1)
reading_back words (Run file n) (a, h) = ap reading_of h.0.command_first ∙ ap (ask Run) (one_back words (codes "run") (codes "--steps") file a n h.0 h.1)
reading_back words (Show file n) (a, h) = ap reading_of h.0.command_first ∙ ap (ask Show) (one_back words (codes "show") (codes "--steps") file a n h.0 h.1)
reading_back words (Eval file n) (a, h) = ap reading_of h.0.command_first ∙ ap (ask Eval) (one_back words (codes "eval") (codes "--steps") file a n h.0 h.1)
reading_back words (Watch file script) l =
    ap reading_of l.command_first ∙
    (ap (λ o. if are (count_behind 0 o) 2 then with_file (file_behind [] o) (value_behind (codes "--script") [] o) else None) (arguments_back l.args l.others l.spelled) ∙
    file_form _ _ _ file script (count_back (length l.args) 2 l.no_more) (ap only l.each_once.0) (ap only l.each_once.1.0))
reading_back words (Check file) l = ap reading_of l.command_first ∙ ap (ask_file Check) (alone_back words (codes "check") file l)
reading_back words (Print file) l = ap reading_of l.command_first ∙ ap (ask_file Print) (alone_back words (codes "print") file l)
reading_back words (Certify file) l = ap reading_of l.command_first ∙ ap (ask_file Certify) (alone_back words (codes "certify") file l)
reading_back words (Gen n) (a, h) =
    let l = h.0 in
    ap reading_of l.command_first ∙
    (ap (λ o. if are (count_behind 0 o) 1 then ask_workload (if_number (value_behind (codes "--number") [] o)) else None) (arguments_back l.args l.others l.spelled) ∙
    gen_form _ _ n (count_back (length l.args) 1 l.no_more) (number_back (codes "--number") l.args a n l.each_once.0 h.1) h.2)

pub reading_exact : (words : List (List ℕ)) (o : Option Reading) → o ≡ reading_of words → IsReadingOf words o
reading_exact words None e = λ r h. let some = reading_back words r h in absurd (cc)
reading_exact words (Some r) e = reading_is words r (sym e)

-- words ask for one thing at most
pub one_reading : (words : List (List ℕ)) (r s : Reading) → IsReading words r → IsReading words s → r ≡ s
one_reading words r s h k = let a = reading_back words r h in let b = reading_back words s k in cc
