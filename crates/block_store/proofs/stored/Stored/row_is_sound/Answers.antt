-- `row_is_sound` meets its contract. Each test that fails contradicts what a sound row says; past them all the row is as good as its includes. Assumes nothing.
use Prim.Native.Nat.{ℕ}
use mathlib.Core.List.{List}
use mathlib.Core.Path.{◌≡◌, sym, ap, ◌∙◌}
use native.Mathlib.Omega.{arith}
use Rattle.block_store.proofs.Store.{part}
use Rattle.block_store.proofs.Tests.{row-says, row-includes}
use Rattle.block_store.specs.Sound.{all_lower}
use Rattle.block_store.specs.Store.{Store, first_of}
use Rattle.block_store.specs.Stored.{store_in}
use Rattle.types.proofs.Tests.{fails}
use Rattle.block_store.proofs.stored.Stored.row_is_sound.Goals as goal

pub returns-then-size-cell : goal.returns-then-size-cell
returns-then-size-cell c =
    let a = c.args in
    let s : Store = store_in a.self.now in
    sym (fails _ (λ e. omega (arith, (row-says a.size s a.row e).authority, c.cell.ensures, c.if-size-cell.true)))

pub returns-then-cell-ge-ROUND_LIMIT : goal.returns-then-cell-ge-ROUND_LIMIT
returns-then-cell-ge-ROUND_LIMIT c =
    let a = c.args in
    let s : Store = store_in a.self.now in
    sym (fails _ (λ e. omega (arith, (row-says a.size s a.row e).round, c.cell-2.ensures, c.if-cell-ge-ROUND_LIMIT.true)))

pub returns-then-count-gt-MAX_INCLUDES : goal.returns-then-count-gt-MAX_INCLUDES
returns-then-count-gt-MAX_INCLUDES c =
    let a = c.args in
    let s : Store = store_in a.self.now in
    sym (fails _ (λ e. omega (arith, (row-says a.size s a.row e).count, c.index-count.ensures, c.cell-3.ensures, c.if-count-gt-MAX_INCLUDES.true)))

pub returns-then-index-start : goal.returns-then-index-start
returns-then-index-start c =
    let a = c.args in
    let s : Store = store_in a.self.now in
    sym (fails _ (λ e. omega (arith, (row-says a.size s a.row e).first, c.index.ensures, c.cell-4.ensures, c.requires.start_value, c.if-index-start.true)))

pub returns-then-self-start : goal.returns-then-self-start
returns-then-self-start c =
    let a = c.args in
    let s : Store = store_in a.self.now in
    sym (fails _ (λ e. omega (arith, (row-says a.size s a.row e).end, (row-says a.size s a.row e).first, c.index-count.ensures, c.cell-3.ensures, c.requires.start_value, c.if-self-start.true)))

pub returns : goal.returns
returns c =
    let a = c.args in
    let s : Store = store_in a.self.now in
    let first : a.start ≡ first_of s a.row = omega (arith, c.if-index-start.false, c.index.ensures, c.cell-4.ensures) in
    let count = c.index-count.ensures ∙ c.cell-3.ensures in
    c.all_lower.ensures
    ∙ ap (λ (l : List ℕ). all_lower a.self.now.blocks.now a.row l) (part s a.row a.start c.index-count.result first count c.requires.row_lt_stored.0 (omega (arith, c.if-self-start.false, c.requires.start_in_bounds)))
    ∙ row-includes a.size s a.row (omega (arith, c.cell.ensures, c.if-size-cell.false)) (omega (arith, c.cell-2.ensures, c.if-cell-ge-ROUND_LIMIT.false)) (omega (arith, count, c.if-count-gt-MAX_INCLUDES.false)) (sym first ∙ c.requires.start_value) (omega (arith, first, count, c.if-self-start.false, c.requires.start_in_bounds))
