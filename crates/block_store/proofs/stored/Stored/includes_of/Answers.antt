-- `includes_of` meets its contract. No stored row, or a stretch that runs past the end, has no includes; any other row has its stretch. Assumes nothing.
use mathlib.Core.Path.{sym}
use native.Mathlib.Omega.{arith}
use Rattle.block_store.proofs.Store.{no_row, no_part, part}
use Rattle.block_store.specs.Stored.{store_in}
use Rattle.block_store.proofs.stored.Stored.includes_of.Goals as goal

pub returns-then-self-row : goal.returns-then-self-row
returns-then-self-row c =
    let a = c.args in
    sym (no_row (store_in a.self.now) a.row c.if-self-row.true)

pub returns-then-self-first : goal.returns-then-self-first
returns-then-self-first c =
    let a = c.args in
    no_part (store_in a.self.now) a.row _ _ c.first_at-first.ensures c.count_at-count.ensures (omega arith)

pub returns-then-self-first-2 : goal.returns-then-self-first-2
returns-then-self-first-2 c =
    let a = c.args in
    no_part (store_in a.self.now) a.row _ _ c.first_at-first.ensures c.count_at-count.ensures (omega arith)

pub returns : goal.returns
returns c =
    let a = c.args in
    part (store_in a.self.now) a.row _ _ c.first_at-first.ensures c.count_at-count.ensures (omega arith) (omega arith)
