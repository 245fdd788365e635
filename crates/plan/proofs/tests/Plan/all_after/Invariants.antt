-- What is left to look at says as much as the whole list. Assumes nothing.
use mathlib.Core.Path.{◌≡◌}
use Rattle.block_tables.specs.Reading.{all_found}
use Rattle.plan.specs.Sides.{row_after}
use Rattle.types.specs.References.{refs_in}
use Rattle.plan.proofs.tests.Plan.all_after.Given as goal

abbrev pub invariant-loop-y : goal.invariant-loop-y
invariant-loop-y l = all_found (row_after l.self) l.self.end (refs_in l.y-iterator.words.now) ≡ all_found (row_after l.self) l.self.end (refs_in l.list)
