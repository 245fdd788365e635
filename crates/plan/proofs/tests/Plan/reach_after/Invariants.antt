-- The last row so far and that of what is left are the last of the whole list. Assumes nothing.
use Prim.Native.Nat.{max}
use mathlib.Core.Path.{◌≡◌}
use Rattle.plan.specs.Planned.{reach_by}
use Rattle.plan.specs.Sides.{row_after}
use Rattle.types.specs.References.{refs_in}
use Rattle.plan.proofs.tests.Plan.reach_after.Given as goal

abbrev pub invariant-loop-y : goal.invariant-loop-y
invariant-loop-y l = max l.best (reach_by (row_after l.self) (refs_in l.y-iterator.words.now)) ≡ reach_by (row_after l.self) (refs_in l.list)
