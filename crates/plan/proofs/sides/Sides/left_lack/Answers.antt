-- A test of each pending row. Assumes nothing.
use Prim.Native.Nat.{ℕ, ◌-◌, ◌+◌}
use lib.ListN.{length}
use mathlib.Core.Bool.{true, false}
use mathlib.Core.Path.{◌≡◌, sym, ◌∙◌}
use native.Mathlib.Omega.{arith}
use Rattle.plan.specs.Planned.{fits, goes_or_lacks, plan_leaves}
use Rattle.std.proofs.Common.{rules}
use Rattle.std.proofs.lemmas.Iterator.{cases_from_all, YieldsList-from_range}
use Rattle.types.proofs.Below.{all_in_range}
use Rattle.plan.proofs.sides.Sides.left_lack.Goals as goal

pub returns : goal.returns
unfolding plan_leaves
returns c =
    let s = c.args.self.now in
    let n = s.pending in
    let p = goes_or_lacks s.blocks.now s.order.now s.base s.waiting.now s.named.now s.others.now s.pending c.args.place.now (s.base + length c.args.moves.now) in
    let e : n - 0 ≡ n = omega arith in
    let f : fits s.base s.pending (length c.args.moves.now) ≡ true = sym c.fit.ensures ∙ c.if-not-fit.false in
    rw f (all_in_range p n c.all.result (cases_from_all _ _ _ (λ (i : ℕ). p i ≡ true) (λ (i : ℕ). p i ≡ false) c.all.ensures.ran (YieldsList-from_range 0 n n (cc) e) (λ x q k. search rules) (λ x q k. search rules)))
