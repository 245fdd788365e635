-- The rows that references have on the tables of both sides, and once a plan is carried out. Assumes nothing: these are definitions.
use Rattle.std.specs.Prelude.{Bool, cond, List, ℕ, ◌-◌, ltb, Option, Some, None}
use Rattle.block_tables.specs.Reading.{looked_up}
use Rattle.plan.specs.Planned.{planned_row, planned_up, passes, is_plan}
use Rattle.plan.specs.declared.sides.Sides.{Sides}
use Rattle.plan.specs.declared.tests.Plan.{Plan}
use Rattle.types.specs.declared.reference.BlockReference.{BlockReference}

-- a row, where it is below n
unfoldable pub row_below : ℕ → ℕ → Option ℕ
row_below n row = cond (ltb row n) (Some row) None

-- the stored row of a reference
abbrev pub stored_row : Sides → BlockReference → Option ℕ
stored_row s r = row_below s.base (looked_up s.blocks.now s.order.now (s.base - 1) s.base r)

-- the pending row of a reference
abbrev pub pending_row : Sides → BlockReference → Option ℕ
pending_row s r = row_below s.pending (looked_up s.waiting.now s.others.now s.pending s.pending r)

-- the rows of references once the plan is carried out
abbrev pub row_after : Plan → BlockReference → ℕ
row_after p = planned_row p.sides.blocks.now p.sides.order.now p.sides.base p.sides.waiting.now p.sides.others.now p.sides.pending p.place.now p.end

-- one past the last rows that pending rows include then
abbrev pub reach_of : Plan → ℕ → ℕ
reach_of p = planned_up p.sides.blocks.now p.sides.order.now p.sides.base p.sides.waiting.now p.sides.named.now p.sides.others.now p.sides.pending p.place.now p.end

-- a list of rows passes the tests, with an area for m places
abbrev pub passes_on : Sides → ℕ → List ℕ → Bool
passes_on s = passes s.blocks.now s.order.now s.base s.waiting.now s.named.now s.others.now s.pending

-- a list of rows is empty, or passes the tests
abbrev pub is_plan_on : Sides → ℕ → List ℕ → Bool
is_plan_on s = is_plan s.blocks.now s.order.now s.base s.waiting.now s.named.now s.others.now s.pending
