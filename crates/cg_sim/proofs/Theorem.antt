-- A call of a function of a valid program, on machine code of the program, ends as the call of the text does.
use Rattle.std.proofs.Common.{◌≡◌, ◌∙◌, refl, ap, sym, subst, true, ℕ, zero, suc, ◌<◌, List, [], ◌∷◌, length, Option, Some, None, arith, nat_lt}
use Rattle.std.specs.Prelude.{slice_get}
use Rattle.std.specs.List.{list_all}
use Rattle.std.proofs.lemmas.Bool.Decides.{nat_tests}
use Rattle.lu_base.specs.declared.world.World.{World}
use Rattle.c_types.specs.Refusal.{IsBuilt}
use Rattle.src_tree.specs.declared.value.Value.{Value}
use Rattle.src_tree.specs.declared.value.Store.{Store}
use Rattle.src_tree.specs.declared.program.Function.{Function}
use Rattle.src_tree.specs.declared.program.Site.{Site}
use Rattle.src_tree.specs.declared.program.Program.{Program}
use Rattle.src_meaning.specs.Initial.{initial_store}
use Rattle.src_meaning.specs.Objects.{addresses}
use Rattle.src_meaning.specs.Expression.{global_place}
use Rattle.src_meaning.specs.Store.{IsStore}
use Rattle.src_meaning.specs.Valid.{IsValid}
use Rattle.src_meaning.specs.ValidTypes.{is_scalar}
use Rattle.src_meaning.specs.ValidStatement.{names_site}
use Rattle.src_meaning.specs.Call.{State, Ending, Returned, Trapped, Starved, Callee, call}
use Rattle.src_meaning.proofs.LayoutLengths.{and_left, and_right}
use Rattle.src_meaning.proofs.Fuel.{IsWithin, call_with_within}
use Rattle.bm_code.specs.declared.code.MachineCode.{MachineCode}
use Rattle.bm_code.specs.declared.code.MachineFunction.{MachineFunction}
use Rattle.bm_code.specs.Process.{Frame}
use Rattle.cg_stmt.specs.Functions.{machine_function}
use Rattle.cg_state.specs.Represents.{address_in, place_word}
use Rattle.cg_state.specs.Runs.{Point}
use Rattle.cg_sim_expr.proofs.Globals.{global_placed, initial_starts}
use Rattle.cg_sim.specs.Compiled.{IsCompiled, target_of, machine_site}
use Rattle.cg_sim.specs.CallEnds.{AreOfTypes, IsResult, EndsAs}
use Rattle.cg_sim.specs.Simulation.{call_start, CallsRun}
use Rattle.cg_sim.proofs.Rules.{signature_found, site_size, site_known, messages_valid, few_functions, few_params, few_in_signature, result_scalar, body_valid, locals_valid, params_valid}
use Rattle.cg_sim.proofs.Kept.{AllTyped}
use Rattle.cg_sim.proofs.Parts.{stores_keep, frees_keep}
use Rattle.cg_sim.proofs.Grows.{grown}
use Rattle.cg_sim.proofs.Messages.{second_global, message_is}
use Rattle.cg_sim.proofs.Machines.{IsCode}
use Rattle.cg_sim.proofs.Ends.{Finishes, GoodResult}
use Rattle.cg_sim.proofs.UnderWay.{SiteOf}
use Rattle.cg_sim.proofs.Layer.{FactsOf, values, places, local_is}
use Rattle.cg_sim.proofs.Enters.{enters}
use Rattle.cg_sim.proofs.Copies.{copy_does}
use Rattle.cg_sim.proofs.Calls.{Valid, outer_call}

module _ (p : Program) (valid : IsValid p) (code : MachineCode) (compiled : IsCompiled p code) (world : World) where
  abbrev built : IsBuilt p.types
  built = valid.built

  abbrev starts : List ℕ
  starts = addresses p.types (initial_store p)

  abbrev same : code.types ≡ p.types
  same = compiled.types

  -- a function's code
  code_of : (g : ℕ) (gd : Function) → slice_get p.functions g ≡ Some gd → (gm : MachineFunction) × (slice_get code.functions g ≡ Some gm) × IsCode (target_of p) gd gm
  code_of g gd e =
      let s = signature_found p valid g gd e in
      (machine_function (target_of p) gd, compiled.functions g gd e, record { signature = s.signature; is = s.is; result = s.result; params = s.params; locals = refl; height = refl; code = refl })

  site_of_number : (n : ℕ) → names_site p n ≡ true → SiteOf p code n
  site_of_number n h = by (slice_get p.sites n) refl
    where
      found : (xs : List Site) (n : ℕ) → nat_lt n (length xs) ≡ true → slice_get xs n ≡ None → ⊥
      found [] n h e = let lt : n < 0 = grind (arith, nat_tests, h) in absurd (omega (arith, lt))
      found (x ∷ xs) zero h e = absurd (cc)
      found (x ∷ xs) (suc n) h e =
          let lt : suc n < length (x ∷ xs) = grind (arith, nat_tests, h) in
          let less : n < length xs = omega (arith, lt) in
          found xs n (below n (length xs) less) e
        where
          below : (a b : ℕ) → a < b → nat_lt a b ≡ true
          below a b lt = grind (arith, nat_tests, lt)

      by : (o : Option Site) → slice_get p.sites n ≡ o → SiteOf p code n
      by None e = absurd (found p.sites n h e)
      by (Some s) e = record { site = s; is = e; machine = machine_site s; is_machine = compiled.sites n s e; elem = refl; some = site_size p valid n s e }

  -- what expressions and places go by, wherever a function stands
  module _ (g : ℕ) (gd : Function) (gm : MachineFunction) (is : slice_get code.functions g ≡ Some gm) (callers : List Frame) (callee : Callee) (fuel : ℕ) (base : Store) where
    facts : FactsOf p built starts code same world g gm is callers gd callee fuel base
    facts st well = record {
      few_functions = few_functions p valid;
      globals = λ g u h.
          let at = global_placed p built st.store well.store g u h in
          (at.0, subst (λ l. address_in l g ≡ place_word p.types st.store (global_place p.types u g)) (sym (initial_starts p built st.store well.store)) at.1);
    }

  valid_parts : Valid p built starts code same world
  valid_parts = record {
    body = body_valid p valid;
    locals = locals_valid p valid;
    result = result_scalar p valid;
    given = λ g gd gm is callers callee fuel base e fits runs.
        let at = facts g gd gm is callers callee fuel base in
        record {
          values = values p built starts code same world g gm is callers gd callee fuel base fits.height at;
          places = λ st well q pc n stack low. places p built starts code same world g gm is callers gd callee fuel base fits.height at st well q pc 1 n stack (omega arith) low;
          stores = stores_keep p built;
          frees = frees_keep p built;
          enters = enters p built starts code same world g gm is callers gd callee fuel base at fits.height;
          other_assigns = copy_does p built starts code same world g gm is callers gd callee fuel base (places p built starts code same world g gm is callers gd callee fuel base fits.height at) (enters p built starts code same world g gm is callers gd callee fuel base at fits.height);
          named = runs;
          compiled = code_of;
          known = λ fd m fits. (fits.signature, ap (λ ts. slice_get ts.signatures m.signature) same ∙ fits.is, fits.result, ap length fits.params);
          messages = λ s ok o a t. message_is p built code compiled (second_global p (messages_valid p valid)) s ok o a t;
          few_signature = λ s n q. few_in_signature p valid n s q;
          few = λ fd f q. few_params p valid f fd q;
          high = let h = fits.height in omega (arith, h);
          sites = site_of_number;
          grows = λ s ok site d n room. grown p built s ok site d.site.elem n d.site d.is refl (site_known p valid site d.site d.is) room;
          signature = (fits.signature, ap (λ ts. slice_get ts.signatures gm.signature) same ∙ fits.is, fits.result);
          local_known = λ x u q. local_is gd.params gd.locals x u q;
          returned = λ u q. result_scalar p valid g gd u e q;
        };
  }

  -- arguments of scalar types
  all_typed : (s : Store) (us : List ℕ) (vs : List Value) → list_all (λ u. is_scalar (slice_get p.types.types u)) us ≡ true → AreOfTypes p s us vs → AllTyped p built s us vs
  all_typed s [] [] h t = tt
  all_typed s [] (v ∷ vs) h t = absurd t
  all_typed s (u ∷ us) [] h t = absurd t
  all_typed s (u ∷ us) (v ∷ vs) h t = (and_left _ _ h, t.0, all_typed s us vs (and_right _ _ h) t.1)

  result_of : (s : Store) (ret : Option ℕ) (v : Option Value) → GoodResult p built code world s ret v → IsResult p s ret v
  result_of s None None h = tt
  result_of s None (Some v) h = absurd h
  result_of s (Some u) None h = absurd h
  result_of s (Some u) (Some v) h = h.1

  ends_as : (base : Store) (q : Point) (ret : Option ℕ) (b : ℕ) (e : Ending) → IsWithin b e → Finishes p built code world base q [] ret e → EndsAs p code world q ret e
  ends_as base q ret b (Returned v s o t) h f = (result_of s ret v f.0, f.1, f.3)
  ends_as base q ret b (Trapped tr t) h f = f
  ends_as base q ret b Starved h f = absurd h

  pub call_runs : (store : Store) → IsStore p store → (g : ℕ) (gd : Function) → slice_get p.functions g ≡ Some gd → (vs : List Value) → AreOfTypes p store gd.params vs → (ticks : ℕ) → EndsAs p code world (call_start p store g vs ticks) gd.ret (call p world store g vs ticks)
  call_runs store ok g gd e vs h ticks =
      let gm = code_of g gd e in
      let st : State = record { store = store; locals = []; sends = []; ticks = ticks } in
      ends_as store (call_start p store g vs ticks) gd.ret ticks (call p world store g vs ticks) (call_with_within p world (suc ticks) 0 g vs st (omega arith)) (outer_call p built starts code same world valid_parts g gd gm.0 vs store ticks e gm.1 gm.2 (all_typed store gd.params vs (params_valid p valid g gd e) h) ok)

pub calls_run : CallsRun
calls_run p valid code compiled world store ok g gd e vs h ticks = call_runs p valid code compiled world store ok g gd e vs h ticks
