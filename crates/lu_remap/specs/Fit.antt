-- New places whose ends are addresses of 32 bits.
use Rattle.std.specs.Prelude.{◌+◌, ◌*◌, ◌<◌, ◌^◌, Option, Some, None}
use Rattle.c_types.specs.declared.path.Place.{Place}
use Rattle.lu_image_store.specs.Versions.{Versions, new_size}
use Rattle.lu_remap.specs.declared.elements.Elements.{Elements}

abbrev pub Fits : Versions → Option Place → Type 0
Fits m None = Unit {0}
Fits m (Some to) = to.offset + new_size m to.ty < 2 ^ 32

abbrev pub ElementsFit : Versions → Option Elements → Type 0
ElementsFit m None = Unit {0}
ElementsFit m (Some r) = r.offset + r.count * new_size m r.ty < 2 ^ 32
