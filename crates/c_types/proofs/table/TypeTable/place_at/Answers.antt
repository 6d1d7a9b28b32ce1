use Rattle.std.proofs.Common.{◌<◌, length, sym, subst}
use Rattle.std.specs.Prelude.{MatchOption}
use Rattle.c_types.specs.declared.parts.Parts.{Parts}
use Rattle.c_types.specs.Place.{IsPlaceAt, HasNoPlaceAt}
use Rattle.c_types.proofs.ObjectLaws.{found-decided}
use Rattle.c_types.proofs.table.TypeTable.place_at.Goals as goal

pub returns : goal.returns
returns c =
    let a = c.args in
    let IsKnown : Parts → Type 0 = λ p. a.elem < length p.types in
    let P : Parts → Type 0 = λ p. MatchOption c.in_ok-find_place.field-0 (HasNoPlaceAt p a.elem a.count a.offset a.want) (IsPlaceAt p a.elem a.count a.offset a.want) in
    subst P c.self.view_is (found-decided c.self.inside.parts c.self.invariant.built a.elem a.count a.offset a.want (subst IsKnown (sym c.self.view_is) c.requires) _ c.in_ok-find_place.ensures)
