-- What an update's names stand for pairs the two programs.
use Rattle.std.proofs.Common.{◌≡◌, ◌∙◌, refl, ap, subst, ℕ, ◌<◌, ◌^◌, true, false, List, [], length, Option, Some, None, Result, Ok, arith}
use Rattle.std.specs.Prelude.{map, slice_get, IsTrue}
use Rattle.std.specs.List.{list_all}
use Rattle.std.specs.Option.{option_map_or}
use Rattle.std.proofs.lemmas.Bool.Decides.{nat_tests}
use Rattle.c_types.proofs.Lists.{and_left, and_right}
use Rattle.lu_spec.specs.Then.{then_do}
use Rattle.lu_spec.proofs.ThenLemmas.{then_ok}
use Rattle.src_tree.specs.declared.program.Program.{Program}
use Rattle.src_meaning.specs.Valid.{IsValid, is_few, has_few_entries}
use Rattle.src_meaning.specs.ValidNames.{are_names}
use Rattle.plan_file.specs.declared.plan.Update.{Update}
use Rattle.plan_file.specs.Kept.{keeps_rename}
use Rattle.plan_file.specs.Renames.{are_in_order}
use Rattle.lu_image.specs.declared.handler.Handler.{Handler}
use Rattle.lu_image.specs.declared.rename.Rename.{Rename}
use Rattle.lu_image.specs.declared.pairing.Pairing.{Pairing}
use Rattle.lu_image.specs.declared.error.PairError.{PairError}
use Rattle.lu_image.specs.Pairing.{pairing_of}
use Rattle.lu_image.specs.Pairs.{Pairs, is_plain, is_last}
use Rattle.lu_image.specs.RenameRefusal.{pair, refusal_of, unless_refused}
use Rattle.lu_image.proofs.RenamesOrder.{in_order-ordered}
use Rattle.lu_pair.specs.Outlines.{signature_of}
use Rattle.lu_resolve.specs.declared.error.ResolveError.{ResolveError}
use Rattle.lu_resolve.specs.Renames.{rename_of, renames_of}
use Rattle.lu_resolve.specs.Handlers.{handlers_onto, last_of}
use Rattle.lu_resolve.specs.Updates.{dangling_of, with_calls, or_cause, resolved}
use Rattle.lu_resolve.proofs.RenamesOnce.{once}
use Rattle.lu_resolve.proofs.HandlersAre.{handlers-good, last-good}

few : {A : Type 0} (xs : List A) → is_few xs ≡ true → length xs < 2 ^ 32
few xs h = grind (arith, nat_tests)

pub few_structs : (p : Program) → IsValid p → length p.types.structs < 2 ^ 32
few_structs p valid = few p.types.structs (and_left (is_few p.types.structs) _ (and_left (has_few_entries p) _ (and_right (are_names p.names) _ valid.rules)))

paired-ok : (refusal : Option PairError) (p q : Pairing) → or_cause (unless_refused refusal p) ≡ Ok q → (refusal ≡ None) × (p ≡ q)
paired-ok None p q e = (refl, cc)
paired-ok (Some why) p q e = absurd (cc)

pub resolved-pairs : (old new : Program) (u : Update) (p : Pairing) → IsValid old → IsValid new
    → IsTrue (list_all keeps_rename u.rename) → IsTrue (are_in_order u.rename)
    → resolved old new u ≡ Ok p → Pairs old new p
resolved-pairs old new u p old_valid new_valid keeps ordered e =
    let rs : List Rename = renames_of u.rename in
    let last : Pairing → List Handler → Option ℕ → Result Pairing ResolveError = λ q hs f. Ok (with_calls q (dangling_of u.dangling) hs f) in
    let second = λ (q : Pairing) (hs : List Handler). then_do (last_of new u.after) (last q hs) in
    let a = then_ok (or_cause (pair old new rs)) (λ q. then_do (handlers_onto old new q.structs [] u.handler) (second q)) p e in
    let b = then_ok (handlers_onto old new a.0.structs [] u.handler) (second a.0) p a.2 in
    let c = then_ok (last_of new u.after) (last a.0 b.0) p b.2 in
    let q = paired-ok (refusal_of old new rs) (pairing_of old new rs) a.0 a.1 in
    let made : Pairing = with_calls (pairing_of old new rs) (dangling_of u.dangling) b.0 c.0 in
    let is : made ≡ p = ap (λ x. with_calls x (dangling_of u.dangling) b.0 c.0) q.1 ∙ (let same : with_calls a.0 (dangling_of u.dangling) b.0 c.0 ≡ p = cc in same) in
    let good = handlers-good old new (pairing_of old new rs).structs [] u.handler b.0 refl refl
    (ap (λ x. handlers_onto old new x.structs [] u.handler) q.1 ∙ b.1) in
    let pairs : Pairs old new made = record {
      old_valid = old_valid;
      new_valid = new_valid;
      renames = rs;
      ordered = in_order-ordered (map rename_of u.rename) (once u.rename keeps ordered);
      passes = q.0;
      paired = refl;
      handlers = good.0;
      distinct = good.1;
      last = by c.0 (last-good new u.after c.0 c.1);
    } in
    let P : Pairing → Type 0 = λ x. Pairs old new x in
    subst P is pairs
  where
    by : (f : Option ℕ) → ((n : ℕ) → f ≡ Some n → option_map_or is_plain (slice_get (map signature_of new.functions) n) false ≡ true)
        → is_last (with_calls (pairing_of old new (renames_of u.rename)) (dangling_of u.dangling) [] f) f ≡ true
    by None good = refl
    by (Some n) good = good n refl
