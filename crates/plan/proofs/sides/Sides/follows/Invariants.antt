-- From here on the plan follows exactly if the whole does, and `up` is its next row's reach: a law for each way round and out. Assumes nothing.
use Prim.Native.Nat.{◌+◌, ◌-◌, ◌*◌, ◌≤◌}
use lib.ListN.{length, get_or}
use mathlib.Core.Path.{◌≡◌}
use Rattle.offers.specs.Plan.{follows}
use Rattle.plan.specs.Planned.{planned_up, plan_follows}
use Rattle.plan.proofs.sides.Sides.follows.Given as goal

abbrev pub invariant-loop-step : goal.invariant-loop-step
invariant-loop-step l = (l.i ≤ length l.moves) × (l.up ≡ planned_up l.self.blocks.now l.self.order.now l.self.base l.self.waiting.now l.self.named.now l.self.others.now l.self.pending l.place l.end (get_or l.moves l.i 0)) × (follows (planned_up l.self.blocks.now l.self.order.now l.self.base l.self.waiting.now l.self.named.now l.self.others.now l.self.pending l.place l.end) l.base l.moves (2 * l.self.pending + 1 - l._step) l.i l.t l.low ≡ plan_follows l.self.blocks.now l.self.order.now l.self.base l.self.waiting.now l.self.named.now l.self.others.now l.self.pending l.place l.moves)
