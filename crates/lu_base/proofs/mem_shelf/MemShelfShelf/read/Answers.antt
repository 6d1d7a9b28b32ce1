use Rattle.std.proofs.Common.{◌≡◌, false, rules}
use Rattle.lu_base.specs.Stored.{is_failing}
use Rattle.lu_base.proofs.mem_shelf.MemShelfShelf.read.Goals as goal

-- The copy doesn't fail, and this call isn't among the failing ones.
pub returns-clause-failing : goal.returns-clause-failing
returns-clause-failing c =
    let calm : is_failing c.args.self.now ≡ false = search rules in
    ((λ e. absurd (c.copy_of.ensures.calm e)), (λ failing. absurd (cc)))
