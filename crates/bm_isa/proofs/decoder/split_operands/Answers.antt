use Rattle.bm_isa.specs.declared.instr.Operands.TheVariants.{One, Two, Three}
use Rattle.bm_isa.proofs.ReadingLemmas.{read_from_parts, no_numbers_in_short, no_second, no_third, no_numbers, join_two, join_three}
use Rattle.bm_isa.proofs.decoder.split_operands.Goals as goal
use Rattle.bm_isa.proofs.decoder.split_operands.Goals.{In_ok-a, In_ok-b, In_ok-c, In_default, In_default-with_two}

pub returns-in_err-a : goal.returns-in_err-a
returns-in_err-a c = rw c.from_residual.ensures (no_numbers_in_short c.args.number c.args.bytes.now c.in_err-a.ensures)

pub returns-in-Some : goal.returns-in-Some
returns-in-Some c =
    let h = c.in_ok-a.ensures in
    read_from_parts c.args.number (One c.in_ok-a.a) c.in-Some.instr c.args.bytes.now c.in_ok-a.rest.now c.in-Some.ensures h.1 h.0

pub returns-in_err-b : goal.returns-in_err-b
returns-in_err-b c =
    let h = c.in_ok-a.ensures in
    let one = c.in_default.ensures in
    rw c.from_residual-in_err-b.ensures (no_second c.args.number c.args.bytes.now c.in_ok-a.a c.in_ok-a.rest.now h.0 h.1 one c.in_err-b.ensures)

pub returns-in-Some-with_two : goal.returns-in-Some-with_two
returns-in-Some-with_two c =
    let h = c.in_ok-a.ensures in
    let k = c.in_ok-b.ensures in
    read_from_parts c.args.number (Two c.in_ok-a.a c.in_ok-b.b) c.in-Some-with_two.instr c.args.bytes.now c.in_ok-b.rest.now c.in-Some-with_two.ensures (h.1, k.1) (join_two _ _ _ _ _ h.0 k.0)

pub returns-in_err-c : goal.returns-in_err-c
returns-in_err-c c =
    let h = c.in_ok-a.ensures in
    let k = c.in_ok-b.ensures in
    let one = c.in_default.ensures in
    let two = c.in_default-with_two.ensures in
    rw c.from_residual-in_err-c.ensures (no_third c.args.number c.args.bytes.now c.in_ok-a.a c.in_ok-a.rest.now h.0 h.1 one c.in_ok-b.b c.in_ok-b.rest.now k.0 k.1 two c.in_err-c.ensures)

pub returns-in_err-with_three : goal.returns-in_err-with_three
returns-in_err-with_three c =
    let h = c.in_ok-a.ensures in
    let k = c.in_ok-b.ensures in
    let m = c.in_ok-c.ensures in
    let one = c.in_default.ensures in
    let two = c.in_default-with_two.ensures in
    rw c.from_residual-in_err-with_three.ensures
    (no_numbers c.args.number c.args.bytes.now c.in_ok-a.a c.in_ok-a.rest.now h.0 h.1 one c.in_ok-b.b c.in_ok-b.rest.now k.0 k.1 two c.in_ok-c.c c.in_ok-c.rest.now m.0 m.1 c.in_err-with_three.ensures)

pub returns : goal.returns
returns c =
    let h = c.in_ok-a.ensures in
    let k = c.in_ok-b.ensures in
    let m = c.in_ok-c.ensures in
    read_from_parts c.args.number (Three c.in_ok-a.a c.in_ok-b.b c.in_ok-c.c) c.in_ok-with_three.field-0 c.args.bytes.now c.in_ok-c.rest.now c.in_ok-with_three.ensures (h.1, k.1, m.1) (join_three _ _ _ _ _ _ _ h.0 k.0 m.0)
