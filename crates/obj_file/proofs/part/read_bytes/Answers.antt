use Rattle.std.proofs.Common.{◌≡◌, [], ◌+◌, ◌-◌, ◌≤◌, ◌++◌, List, ℕ, length, take, drop, sym, ◌∙◌, ap, subst, arith}
use Rattle.obj_file.specs.Texts.{IsRaw, Spans}
use Rattle.obj_file.proofs.Primitive.{raw_fault, part_spans, part_raw}
use Rattle.obj_file.proofs.part.read_bytes.Goals as goal

pub returns-then-bytes-at-clause-fault : goal.returns-then-bytes-at-clause-fault
returns-then-bytes-at-clause-fault c =
    raw_fault c.args.bytes.now c.args.at c.args.size c.too_short.result (record { all = c.bytes_known.ensures; within = c.requires; short = omega arith; is = c.too_short.ensures })

-- the row is the part
row_is : (row made bytes : List ℕ) (at size : ℕ) → made ≡ [] → row ≡ made ++ take (at + size - at) (drop at bytes) → row ≡ take size (drop at bytes)
row_is row made bytes at size e h =
    let same : at + size - at ≡ size = omega arith in
    h ∙ ap (λ z. z ++ take (at + size - at) (drop at bytes)) e ∙ ap (λ n. take n (drop at bytes)) same

pub returns-clause-any : goal.returns-clause-any
returns-clause-any c =
    let e = row_is c.append.new.self c.new-row.result c.args.bytes.now c.args.at c.args.size c.new-row.ensures c.in_ok-append.ensures.put in
    let room : c.args.at + c.args.size ≤ length c.args.bytes.now = omega arith in
    subst (λ row. IsRaw c.args.size row) (sym e) (part_raw c.args.bytes.now c.args.at c.args.size c.bytes_known.ensures room)

pub returns-clause-read : goal.returns-clause-read
returns-clause-read c =
    let e = row_is c.append.new.self c.new-row.result c.args.bytes.now c.args.at c.args.size c.new-row.ensures c.in_ok-append.ensures.put in
    let room : c.args.at + c.args.size ≤ length c.args.bytes.now = omega arith in
    subst (λ row. Spans c.args.bytes.now c.args.at (c.args.at + c.args.size) row) (sym e) (part_spans c.args.bytes.now c.args.at c.args.size room)
