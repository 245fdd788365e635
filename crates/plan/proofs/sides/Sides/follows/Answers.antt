-- By how far the next row of the plan reaches. Assumes nothing.
use Prim.Native.Nat.{ℕ, suc, ◌+◌, ◌-◌, ◌≤◌, ◌<◌}
use borrow.Author.Tests.{lt-ltb, le-ltb}
use lib.ListN.{length, get_or}
use mathlib.Core.Bool.{false}
use mathlib.Core.List.{List}
use mathlib.Core.Path.{◌≡◌, refl, sym, ap, ◌∙◌}
use native.Mathlib.Numerals.{add-one}
use native.Mathlib.Omega.{arith}
use Rattle.offers.specs.Plan.{follows}
use Rattle.plan.proofs.Testing.{fuel}
use Rattle.plan.proofs.sides.Sides.follows.Goals as goal

module _ (up : ℕ → ℕ) (base : ℕ) (l : List ℕ) (n step i t low : ℕ) (pos : step < n) (h : i < length l) (u : ℕ) (at : u ≡ up (get_or l i 0)) where
  stuck : u < t → t ≤ base → false ≡ follows up base l (n - step) i t low
  unfolding follows
  stuck a b = grind (arith, fuel n step pos)

  far : t < u → false ≡ follows up base l (n - step) i t low
  unfolding follows
  far a = grind (arith, fuel n step pos)

  early : t ≤ u → u ≤ t → get_or l i 0 < low → false ≡ follows up base l (n - step) i t low
  unfolding follows
  early a b d = grind (arith, fuel n step pos)

  back : u < t → base < t → (last v : ℕ) → last ≡ get_or l (t - base - 1) 0 → v ≡ up last → follows up base l (n - (step + 1)) i v (last + 1) ≡ follows up base l (n - step) i t low
  unfolding follows
  back a b last v el ev = grind (arith, fuel n step pos, ap up el, add-one last)

  taken : t ≤ u → u ≤ t → (row : ℕ) → row ≡ get_or l i 0 → low ≤ row → follows up base l (n - (step + 1)) (i + 1) (base + (i + 1)) 0 ≡ follows up base l (n - step) i t low
  unfolding follows
  taken a b row er d =
      let p : i + 1 ≡ suc i = omega arith in
      let q : base + suc i ≡ suc (base + i) = omega arith in
      sym (ap (λ j. follows up base l j i t low) (fuel n step pos) ∙ rw (lt-ltb i (length l) h, ← at, le-ltb u t a, le-ltb t u b, ← er, le-ltb row low d, p, q) refl)

pub returns-then-t-base : goal.returns-then-t-base
returns-then-t-base c =
    let l = c.loop-step in
    stuck _ _ _ _ l._step l.i l.t l.low c.loop-step-test.true c.if-moves-i.false l.up l.invariant.1 c.if-up-t.true c.if-t-base.true ∙ l.invariant.2

pub returns-then-t-up : goal.returns-then-t-up
returns-then-t-up c =
    let l = c.loop-step in
    far _ _ _ _ l._step l.i l.t l.low c.loop-step-test.true c.if-moves-i.false l.up l.invariant.1 c.if-t-up.true ∙ l.invariant.2

pub returns-then-row-low : goal.returns-then-row-low
returns-then-row-low c =
    let l = c.loop-step in
    early _ _ _ _ l._step l.i l.t l.low c.loop-step-test.true c.if-moves-i.false l.up l.invariant.1 c.if-up-t.false c.if-t-up.false (rw c.row_at-row.ensures at c.if-row-low.true) ∙ l.invariant.2

pub loop-step-preserved-then-up-t : goal.loop-step-preserved-then-up-t
loop-step-preserved-then-up-t c =
    let l = c.loop-step in
    (l.invariant.0, l.invariant.1, back _ _ _ _ l._step l.i l.t l.low c.loop-step-test.true c.if-moves-i.false l.up l.invariant.1 c.if-up-t.true c.if-t-base.false c.row_at-last.result c.reach_of-t.result c.row_at-last.ensures c.reach_of-t.ensures ∙ l.invariant.2)

pub loop-step-preserved : goal.loop-step-preserved
loop-step-preserved c =
    let l = c.loop-step in
    (omega arith, rw c.row_at-in-loop-step.ensures at c.reach_of-up-in-loop-step.ensures, taken _ _ _ _ l._step l.i l.t l.low c.loop-step-test.true c.if-moves-i.false l.up l.invariant.1 c.if-up-t.false c.if-t-up.false c.row_at-row.result c.row_at-row.ensures c.if-row-low.false ∙ l.invariant.2)
