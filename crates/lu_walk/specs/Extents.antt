-- What the code is given of an object, in the terms of the definitions.
use Rattle.lu_image_store.specs.Versions as spec
use Rattle.lu_walk.specs.declared.objects.Extent.{Extent}

abbrev pub extent_in : Extent → spec.Extent
extent_in e = record { elem = e.elem; count = e.count; is_array = e.is_array }
