-- Kinds of files, and what reading a file of a kind does.
use Rattle.std.specs.Prelude.{◌≡◌, ℕ, ◌⊎◌, List, Option}
use Rattle.rd_io.specs.Causes.{Loses}
use Rattle.rd_io.specs.Outside.{IsContent, IsTooLong}
use Rattle.rd_io.specs.Told.{FilesTold}
use Rattle.rd_top.specs.declared.answer.Refusal.{Refusal}
use Rattle.rd_top.specs.declared.answer.Answer.{Answer}
use Rattle.rd_top.specs.declared.answer.Answer.TheVariants.{File, Refused, Long, Memory}

-- a kind of files: the most bytes, which bytes spell which value, and why bytes spell none
pub record Kind (V : Type 0) : Type 1 where
  pub limit : ℕ
  pub Spells : List ℕ → V → Type 0
  pub Refuses : List ℕ → Refusal → Type 0

-- the content of a file spells a value
pub record IsFileOf {V : Type 0} (kind : Kind V) (held : Option (List ℕ)) (value : V) : Type 0 where
  pub bytes : List ℕ
  pub content : IsContent held kind.limit bytes
  pub spelled : kind.Spells bytes value

-- the content of a file is refused
pub record IsRefused {V : Type 0} (kind : Kind V) (held : Option (List ℕ)) (refusal : Refusal) : Type 0 where
  pub bytes : List ℕ
  pub content : IsContent held kind.limit bytes
  pub refused : kind.Refuses bytes refusal

-- why bytes were not read as a value
abbrev pub Unread : {V : Type 0} → Kind V → List ℕ → Answer → Type 0
Unread kind bytes (Refused refusal) = kind.Refuses bytes refusal
Unread kind bytes Memory = Unit {0}
Unread kind bytes other = ⊥

-- why a file was not taken
abbrev pub NotTaken : {V : Type 0} → Kind V → List ℕ → FilesTold → FilesTold → Answer → Type 0
NotTaken kind name files files2 File = Loses files files2 name
NotTaken kind name files files2 Long = IsTooLong (files.held name) kind.limit
NotTaken kind name files files2 (Refused refusal) = IsRefused kind (files.held name) refusal
NotTaken kind name files files2 Memory = Unit {0}
NotTaken kind name files files2 other = ⊥

-- a file was not taken, and nothing else was touched; or it spells a value, and the answer is about that
abbrev pub OfFile : {V : Type 0} → Kind V → List ℕ → FilesTold → FilesTold → Type 0 → (V → Type 0) → Answer → Type 0
OfFile {V} kind name files files2 Untouched About a =
    (NotTaken kind name files files2 a × Untouched) ⊎ ((value : V) × (IsFileOf kind (files.held name) value × About value))
