use Rattle.std.proofs.Common.{ℕ, ◌+◌, ◌-◌, ◌<◌, ◌≤◌, List, length, take, drop, arith}
use Rattle.std.proofs.lemmas.List.{length-take, length-drop}
use Rattle.obj_file.proofs.Primitive.{number_spans, rest_number, field_fault}
use Rattle.obj_file.proofs.part.read_field.Goals as goal

pub returns-in-Some-clause-read : goal.returns-in-Some-clause-read
returns-in-Some-clause-read c =
    let bytes : List ℕ = c.args.bytes.now in
    let n = c.in-Some.n in
    let enough : 4 ≤ length (take (length bytes - c.args.at) (drop c.args.at bytes)) = c.in-Some.ensures.0 in
    let a = length-take (length bytes - c.args.at) (drop c.args.at bytes) in
    let b = length-drop c.args.at bytes in
    let long : c.args.at + 4 ≤ length bytes = omega arith in
    number_spans bytes c.args.at 4 n c.bytes_known.ensures long (rest_number bytes c.args.at 4 n c.in-Some.ensures.1)

pub returns-in-None-clause-fault : goal.returns-in-None-clause-fault
returns-in-None-clause-fault c =
    let bytes : List ℕ = c.args.bytes.now in
    let rest = drop c.args.at bytes in
    let short : length (take (length bytes - c.args.at) rest) < 4 = c.in-None.ensures in
    let a = length-take (length bytes - c.args.at) rest in
    let b = length-drop c.args.at bytes in
    field_fault bytes c.args.at c.too_short.result (record { all = c.bytes_known.ensures; within = c.requires; short = omega arith; is = c.too_short.ensures })
