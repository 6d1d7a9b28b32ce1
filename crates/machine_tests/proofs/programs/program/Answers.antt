use Rattle.std.proofs.Common.{◌≡◌, ◌∙◌, ap, sym, ◌<◌, [], ◌∷◌, length, arith}
use Rattle.std.specs.Prelude.{slice_get}
use Rattle.c_types.specs.Layout.{size_of}
use Rattle.bm_code.specs.declared.code.MachineCode.{MachineCode}
use Rattle.bm_code.specs.declared.code.MachineGlobal.{MachineGlobal}
use Rattle.bm_code.specs.declared.code.MachineSite.{MachineSite}
use Rattle.bm_code.specs.Accepted.{IsAcceptedGlobal, IsAcceptedSite, global_bytes}
use Rattle.machine_tests.proofs.TestLemmas.{none_in, in_one, in_two, good_global}
use Rattle.machine_tests.proofs.programs.program.Goals as goal

pub returns : goal.returns
returns c =
    let types = c.types.inside.parts in
    let code : MachineCode = record { names = c.from_vec.result; types = types; functions = c.from_vec-2.result; globals = c.from_vec-3.result; sites = c.from_vec-4.result; filters = 0 } in
    let site : MachineSite = record { function = 0; ordinal = 0; elem = 0 } in
    let input : MachineGlobal = c.in_ok-input.input in
    let output : MachineGlobal = c.in_ok-output.output in
    let named : 0 < length code.names = omega (arith, ap length c.from_vec.ensures, ap length c.in_ok-vec.ensures.items) in
    let two : length types.types ≡ 2 = ap (λ p. length p.types) c.types.view_is ∙ c.in_ok-types.ensures.types in
    let seven : length code.functions ≡ 7 = ap length c.from_vec-2.ensures ∙ c.in_ok-functions.ensures.count in
    let size : size_of types 1 ≡ 32 = ap (λ p. size_of p 1) c.types.view_is ∙ c.in_ok-input.ensures.size in
    let globals : code.globals ≡ input ∷ output ∷ [] = c.from_vec-3.ensures ∙ c.in_ok-vec-2.ensures.items in
    let sites : code.sites ≡ site ∷ [] = c.from_vec-4.ensures ∙ c.in_ok-vec-3.ensures.items in
    let first : IsAcceptedGlobal code input = good_global code input named two c.in_ok-input.ensures.name c.in_ok-input.ensures.of_ints size c.in_ok-input.ensures.bytes in
    let second : IsAcceptedGlobal code output = good_global code output named two c.in_ok-output.ensures.name c.in_ok-output.ensures.of_ints size c.in_ok-output.ensures.bytes in
    let only : IsAcceptedSite code site = record { function = omega (arith, seven); known = omega (arith, two) } in
    record {
      structs = λ k t at. absurd (none_in types.structs k t (ap (λ p. p.structs) c.types.view_is ∙ c.in_ok-types.ensures.structs) at);
      unions = λ k t at. absurd (none_in types.unions k t (ap (λ p. p.unions) c.types.view_is ∙ c.in_ok-types.ensures.unions) at);
      functions = λ k d at. c.in_ok-functions.ensures.each code c.types.view_is k d (ap (λ l. slice_get l k) (sym c.from_vec-2.ensures) ∙ at);
      function_count = omega (arith, seven);
      globals = λ k g at. in_two (IsAcceptedGlobal code) input output g code.globals k globals first second at;
      global_count = omega (arith, ap length globals);
      global_size = omega (arith, ap global_bytes globals, c.in_ok-input.ensures.bytes, c.in_ok-output.ensures.bytes);
      sites = λ k s at. in_one (IsAcceptedSite code) site s code.sites k sites only at;
      site_count = omega (arith, ap length sites);
      filter_count = omega arith;
      filters_last = omega arith;
    }
