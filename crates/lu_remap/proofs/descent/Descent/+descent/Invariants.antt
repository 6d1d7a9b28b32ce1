use Rattle.std.proofs.Common.{◌≡◌, ◌*◌, ◌≤◌, ◌+◌, Some, drop}
use Rattle.c_types.specs.declared.parts.Ty.TheVariants.{Struct}
use Rattle.c_types.specs.Layout.{shape_of}
use Rattle.lu_remap.specs.Descent.{aim_of, versions, visit, visit_fields}
use Rattle.lu_remap.proofs.descent.Descent.+descent.Given as goal

abbrev pub decreases-visit : goal.decreases-visit
decreases-visit l = 4 * l.depth

abbrev pub decreases-visit_field : goal.decreases-visit_field
decreases-visit_field l = 4 * l.depth + 1

abbrev pub decreases-visit_element : goal.decreases-visit_element
decreases-visit_element l = 4 * l.depth + 1

abbrev pub decreases-visit_before : goal.decreases-visit_before
decreases-visit_before l = 4 * l.depth + 2

abbrev pub decreases-visit_fields : goal.decreases-visit_fields
decreases-visit_fields l = 4 * l.depth + 3

abbrev pub decreases-visit_elements : goal.decreases-visit_elements
decreases-visit_elements l = 4 * l.depth + 3

abbrev pub invariant-visit_fields-loop-k : goal.invariant-visit_fields-loop-k
invariant-visit_fields-loop-k l = record {
  value : visit_fields (versions l.self.pairing.now) (visit (versions l.self.pairing.now) (aim_of l.self.aim) l.depth) (Some (Struct l.tag)) (shape_of l.types) l.end (drop l.k l.fields) l.k l.to l.offset l.spot ≡ visit_fields (versions l.self.pairing.now) (visit (versions l.self.pairing.now) (aim_of l.self.aim) l.depth) (Some (Struct l.tag)) (shape_of l.types) 0 l.fields 0 l.to l.offset l.initial.spot;
  bound : l.end ≤ l.k * 2097152;
}
