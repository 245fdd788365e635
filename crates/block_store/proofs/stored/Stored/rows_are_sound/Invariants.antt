-- `rows_are_sound` meets its contract. The loop's invariant: the rows passed are sound and their includes end at `start`. Assumes nothing.
use Rattle.block_store.proofs.Tests.{Passed}
use Rattle.block_store.specs.Stored.{store_in}
use Rattle.block_store.proofs.stored.Stored.rows_are_sound.Given as goal

abbrev pub invariant-loop-row : goal.invariant-loop-row
invariant-loop-row l = Passed l.size (store_in l.self) l.start l.row
