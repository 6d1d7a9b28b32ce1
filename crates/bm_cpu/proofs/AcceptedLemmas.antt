-- What accepted code has.
use Rattle.std.proofs.Common.{◌≡◌, ◌∙◌, sym, ap, ℕ, ◌≤◌, length, Some, arith}
use Rattle.lu_base.specs.declared.limits.TheConstants.{LOCALS}
use Rattle.bm_code.specs.declared.code.MachineCode.{MachineCode}
use Rattle.bm_run.specs.Transferred.{IsSized}
use Rattle.bm_serve.specs.Held.{HasKnownSites}
use Rattle.bm_code.specs.Accepted.{IsAccepted, HasParameters}

module _ (code : MachineCode) (accepted : IsAccepted code) where
  pub is_sized : IsSized code
  is_sized = record {
    each = λ k d at.
        let f = accepted.functions k d at in
        record {
          height = f.height;
          locals = f.locals;
          signature = f.signature;
          has = f.has;
          arguments = omega (arith, f.parameters, f.locals);
        };
    count = omega (arith, accepted.function_count);
  }

  pub known_sites : HasKnownSites code
  known_sites = λ k s at. (accepted.sites k s at).known

  pub few_parameters : (function count : ℕ) → HasParameters code function count → count ≤ LOCALS
  few_parameters function count h =
      let f = accepted.functions function h.declared h.is in
      let one : Some h.signature ≡ Some f.signature = sym h.has ∙ f.has in
      let same : h.signature ≡ f.signature = cc in
      omega (arith, h.parameters, ap (λ s. length s.params) same, f.parameters, f.locals)
