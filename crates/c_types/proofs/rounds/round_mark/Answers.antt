use Rattle.std.proofs.Common.{◌∙◌, sym, ap}
use Rattle.std.specs.List.{list_any}
use Rattle.c_types.specs.Tables.{fields_of, members_of}
use Rattle.c_types.specs.Rounds.{is_marked, round_mark}
use Rattle.c_types.proofs.RoundLemmas.{list_any-map}
use Rattle.c_types.proofs.rounds.round_mark.Goals as goal

pub returns-in-Struct : goal.returns-in-Struct
returns-in-Struct c =
    let marked = is_marked c.args.target c.args.marks.now in
    let fields = fields_of c.args.parts.now c.in-Struct.number in
    c.holds_marked.ensures
    ∙ (ap (list_any (λ f. marked f.ty)) c.fields_of.ensures
    ∙ (sym (list_any-map marked fields)
    ∙ ap (round_mark c.args.parts.now c.args.target c.args.marks.now) (sym c.in-Struct.is)))

pub returns-in-Union : goal.returns-in-Union
returns-in-Union c =
    let marked = is_marked c.args.target c.args.marks.now in
    let members = members_of c.args.parts.now c.in-Union.number in
    c.holds_marked-in-Union.ensures
    ∙ (ap (list_any (λ f. marked f.ty)) c.members_of.ensures
    ∙ (sym (list_any-map marked members)
    ∙ ap (round_mark c.args.parts.now c.args.target c.args.marks.now) (sym c.in-Union.is)))
