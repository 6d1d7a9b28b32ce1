use Rattle.std.proofs.Common.{◌<◌, length, sym, subst}
use Rattle.std.specs.Prelude.{MatchBool}
use Rattle.c_types.specs.declared.parts.Parts.{Parts}
use Rattle.c_types.specs.Place.{HasPlaceAt, HasNoPlaceAt}
use Rattle.c_types.proofs.ObjectLaws.{fits-decided}
use Rattle.c_types.proofs.table.TypeTable.fits.Goals as goal

pub returns : goal.returns
returns c =
    let a = c.args in
    let IsKnown : Parts → Type 0 = λ p. a.elem < length p.types in
    let P : Parts → Type 0 = λ p. MatchBool c.has_place.result (HasPlaceAt p a.elem a.count a.offset a.want) (HasNoPlaceAt p a.elem a.count a.offset a.want) in
    subst P c.self.view_is (fits-decided c.self.inside.parts c.self.invariant.built a.elem a.count a.offset a.want (subst IsKnown (sym c.self.view_is) c.requires) _ c.has_place.ensures)
