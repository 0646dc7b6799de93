-- Edges of a function, one after another, and rows of labels from which they lead.
use Rattle.std.specs.Prelude.{ℕ, List, length, replicate, [], ◌∷◌, ◌++◌, map, fold, slice_get, slice_set, unwrap_or, Option, Some, None, if◌then◌else◌}
use Rattle.std.specs.List.{flat_map}
use Rattle.ir_core.specs.declared.module.Block.{Block}
use Rattle.ir_core.specs.Names.{same_name, number_where}
use Rattle.ir_core.specs.Definitions.{is_among}
use Rattle.ir_core.specs.Typing.{labels_of}

-- an edge: the label to which it leads, and that of the block from which it comes
pub record Edge : Type 0 where
  pub to : List ℕ
  pub from : List ℕ

-- the edges from a block of that label
abbrev pub edges_to : List ℕ → List (List ℕ) → List Edge
edges_to from labels = map (λ (to : List ℕ). record { to = to; from = from }) labels

-- the edges of a block
abbrev pub edges_of : Block → List Edge
edges_of b = edges_to b.label (labels_of b.end)

-- a set with one more name, if it is new
abbrev pub with_name : List (List ℕ) → List ℕ → List (List ℕ)
with_name set name = if is_among set name then set else set ++ name ∷ []

-- rows of labels
abbrev pub Rows : Type 0
Rows = List (List (List ℕ))

-- the row of that number
abbrev pub row_at : Rows → Option ℕ → List (List ℕ)
row_at rows (Some t) = unwrap_or (slice_get rows t) []
row_at rows None = []

-- rows with one more label in the row of that number
abbrev pub noted_at : Rows → List ℕ → Option ℕ → Rows
noted_at rows from (Some t) = slice_set rows t (with_name (row_at rows (Some t)) from)
noted_at rows from None = rows

-- the number of a label among labels
abbrev pub label_number : List (List ℕ) → List ℕ → Option ℕ
label_number labels label = number_where (λ n. same_name n label) labels

-- rows, one for each label, with one more edge
abbrev pub noted : List (List ℕ) → Rows → Edge → Rows
noted labels rows e = noted_at rows e.from (label_number labels e.to)

-- rows with more edges
abbrev pub noted_all : List (List ℕ) → Rows → List Edge → Rows
noted_all labels rows edges = fold (noted labels) rows edges

-- the rows of a function
abbrev pub rows_of : List Block → Rows
rows_of bs = noted_all (map (λ (b : Block). b.label) bs) (replicate (length bs) []) (flat_map edges_of bs)
