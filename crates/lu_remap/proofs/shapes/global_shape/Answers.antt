use Rattle.std.proofs.Common.{◌≡◌, ◌∙◌, ap, arith, ◌*◌}
use Rattle.c_types.specs.Layout.{size_of}
use Rattle.src_meaning.specs.Initial.{global_elem, global_count}
use Rattle.lu_image_store.specs.Versions.{Extent}
use Rattle.lu_remap.proofs.Sizes.{global_small}
use Rattle.lu_remap.proofs.shapes.global_shape.Goals as goal

pub overflow_mul-result : goal.overflow_mul-result
overflow_mul-result c =
    let p = c.args.types.now in
    let small = global_small p c.parts-parts.ensures.built c.args.ty in
    let count : c.global_extent-elem.result.count ≡ global_count p c.args.ty = ap (λ (e : Extent). e.count) c.global_extent-elem.ensures in
    let elem : c.global_extent-elem.result.elem ≡ global_elem p c.args.ty = ap (λ (e : Extent). e.elem) c.global_extent-elem.ensures in
    let size : c.size_of.result ≡ size_of p (global_elem p c.args.ty) = c.size_of.ensures ∙ ap (size_of p) elem in
    let both : c.global_extent-elem.result.count * c.size_of.result ≡ global_count p c.args.ty * size_of p (global_elem p c.args.ty) = ap (λ n. n * c.size_of.result) count ∙ ap (λ n. global_count p c.args.ty * n) size in
    omega (arith, small, both)
