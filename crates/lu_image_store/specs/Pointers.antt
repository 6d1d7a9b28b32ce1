-- The image of a pointer.
use Rattle.std.specs.Prelude.{◌≡◌, ℕ, ◌+◌, ◌*◌, Bool, true, false, ◌&&◌, nat_eq, if◌then◌else◌, List, [], ◌∷◌, map, length, Option, Some, None, Result, Ok, Err, slice_get}
use Rattle.std.specs.List.{list_all}
use Rattle.std.specs.Option.{option_map_or}
use Rattle.lu_spec.specs.Then.{then_option}
use Rattle.c_types.specs.declared.parts.Ty.{Ty}
use Rattle.c_types.specs.declared.parts.Ty.TheVariants.{Array}
use Rattle.c_types.specs.declared.path.Place.{Place}
use Rattle.c_types.specs.declared.path.Step.{Step}
use Rattle.src_tree.specs.declared.value.Value.{Value, Null, Pointer}
use Rattle.src_tree.specs.declared.value.Value.TheOpen as V
use Rattle.src_tree.specs.declared.value.ObjectKind.{ObjectKind}
use Rattle.src_tree.specs.declared.value.ObjectKind.TheVariants.{Global, Heap, Temporary}
use Rattle.src_tree.specs.declared.value.Object.{Object}
use Rattle.src_tree.specs.declared.value.Store.{Store}
use Rattle.src_meaning.specs.Paths.{Layer}
use Rattle.src_meaning.specs.Objects.{is_live}
use Rattle.lu_image.specs.declared.pairing.Dangling.{Dangling}
use Rattle.lu_image.specs.declared.pairing.Dangling.TheVariants.{Refuse, Null as Becomes_null}
use Rattle.lu_image.specs.declared.refusal.Why.{Why}
use Rattle.lu_image.specs.declared.refusal.Why.TheVariants as W
use Rattle.lu_image.specs.declared.refusal.Kept.{Kept}
use Rattle.lu_image.specs.declared.refusal.Kept.TheVariants as K
use Rattle.lu_image_store.specs.Versions.{Versions, Extent, old_types, old_type, new_type, new_size, do_correspond, old_extent, new_extent}
use Rattle.lu_image_store.specs.Paths.{share_paths, old_place, place_image}
use Rattle.lu_image_store.specs.Candidates.{Candidate, at_place, at_end, at_whole, IsCandidate, candidates}
use Rattle.lu_image_store.specs.Faults.{Gives, refused}

-- what a pointer is a pointer to: an old type and a new one, or anything
pub data Aim : Type 0 where
  exactly : (old new : ℕ) → Aim
  anything : Aim

abbrev pub wanted : Aim → Option ℕ
wanted (exactly t u) = Some t
wanted anything = None

-- an old place of type t may become a new one of type u
abbrev pub suits : Versions → Aim → ℕ → ℕ → Bool
suits m (exactly old new) t u = nat_eq u new
suits m anything t u = do_correspond m t u

abbrev pub place_offset : Versions → Aim → Place → Place → Option ℕ
place_offset m aim from to = if suits m aim from.ty to.ty then Some to.offset else None

-- the end of an array of equal length
abbrev pub end_offset : Versions → Aim → Option Ty → Option Ty → ℕ → Option ℕ
end_offset m aim (Some (Array t n)) (Some (Array u l)) start =
    if nat_eq n l && suits m aim t u then Some (start + l * new_size m u) else None
end_offset m aim _ _ start = None

abbrev pub with_places : Versions → Extent → Extent → List Step → (Place → Place → Option ℕ) → Option ℕ
with_places m e d path f =
    then_option (old_place m e path) (λ from. then_option (place_image m e d path) (f from))

-- the new offset of a candidate, if it has an image
abbrev pub candidate_image : Versions → Aim → Extent → Extent → Candidate → Option ℕ
candidate_image m aim e d (at_place path) = with_places m e d path (place_offset m aim)
candidate_image m aim e d (at_end path) =
    with_places m e d path (λ from to. end_offset m aim (old_type m from.ty) (new_type m to.ty) to.offset)
candidate_image m aim e d at_whole =
    if share_paths e d && (nat_eq e.count d.count && suits m aim e.elem d.elem) then Some (d.count * new_size m d.elem) else None

abbrev pub same_image : Option ℕ → Option ℕ → Bool
same_image None None = true
same_image (Some a) (Some b) = nat_eq a b
same_image _ _ = false

abbrev pub or_lost : Option ℕ → Result ℕ Why
or_lost None = Err W.LostTarget
or_lost (Some offset) = Ok offset

-- the one offset that all candidates have
abbrev pub agreed : List (Option ℕ) → Result ℕ Why
agreed [] = Err W.NoPlace
agreed (image ∷ rest) = if list_all (same_image image) rest then or_lost image else Err W.Ambiguous

-- the new offset of an offset in an object
abbrev pub offset_image : Versions → Aim → Extent → Extent → ℕ → Result ℕ Why
offset_image m aim e d offset =
    agreed (map (candidate_image m aim e d) (candidates (old_types m) e.elem e.count (wanted aim) offset))

-- What candidates make of a pointer, in words: none at all, all without image, two that differ, or one offset for all.
abbrev pub IsAgreed : (Candidate → Type 0) → (Candidate → Option ℕ) → Result ℕ Why → Type 0
IsAgreed P image (Ok offset) = ((c : Candidate) × P c) × ((c : Candidate) → P c → image c ≡ Some offset)
IsAgreed P image (Err W.NoPlace) = (c : Candidate) → P c → ⊥
IsAgreed P image (Err W.LostTarget) = ((c : Candidate) × P c) × ((c : Candidate) → P c → image c ≡ None)
IsAgreed P image (Err W.Ambiguous) = (a b : Candidate) × P a × P b × (image a ≡ image b → ⊥)
IsAgreed P image (Err _) = ⊥

abbrev pub IsOffsetImage : Versions → Aim → Extent → Extent → ℕ → Result ℕ Why → Type 0
IsOffsetImage m aim e d offset answer =
    IsAgreed (IsCandidate (old_types m) e.elem e.count (wanted aim) offset) (candidate_image m aim e d) answer

-- what the image of a value looks at besides its types: the old store, and the new number of each object that moves
pub record Context : Type 0 where
  pub versions : Versions
  pub store : Store
  pub number : ℕ → ℕ

-- a pointer to a dead object
abbrev pub dead_image : Dangling → Kept → Gives Value
dead_image Refuse target = refused W.Dangling target
dead_image Becomes_null target = Ok Null

-- a pointer to an object whose global or site has no pair
abbrev pub unpaired_image : Versions → ObjectKind → Kept → Gives Value
unpaired_image m Global target = refused W.LostTarget target
unpaired_image m (Heap site) target = refused W.UnpairedSite (K.Site site)
unpaired_image m Temporary target = refused W.UnpairedSite (K.Site (length m.pairing.old.sites))

abbrev pub at_offset : ℕ → Kept → Result ℕ Why → Gives Value
at_offset object target (Ok offset) = Ok (Pointer object offset)
at_offset object target (Err why) = refused why target

abbrev pub moved_pointer : Context → Aim → ℕ → ℕ → Object → Option Extent → Option Extent → Kept → Gives Value
moved_pointer c aim o offset x (Some e) (Some d) target =
    at_offset (c.number o) target (offset_image c.versions aim e d offset)
moved_pointer c aim o offset x _ _ target = unpaired_image c.versions x.kind target

abbrev pub object_pointer : Context → Aim → ℕ → ℕ → Object → Kept → Gives Value
object_pointer c aim o offset x target =
    if is_live x then moved_pointer c aim o offset x (old_extent c.versions o x) (new_extent c.versions o x) target else dead_image c.versions.pairing.dangling target

abbrev pub target : ℕ → ℕ → Kept
target o offset = K.Target o offset

-- Null stays null. A dead target is refused, or becomes null by the rule of the pairing. Then come a target without
-- pair, and the candidates.
abbrev pub pointer_image : Context → Aim → Layer → Gives Value
pointer_image c aim (V.Pointer o offset) =
    option_map_or (λ x. object_pointer c aim o offset x (target o offset)) (slice_get c.store.objects o) (refused W.NoPlace (target o offset))
pointer_image c aim _ = Ok Null
