use mathlib.Core.Path.{refl, sym, ◌∙◌}
use native.Mathlib.Omega.{arith}
use Rattle.block_store.proofs.Tests.{passed_more, row-stops, rows_end}
use Rattle.block_store.specs.Stored.{store_in}
use Rattle.types.proofs.Below.{all-zero}
use Rattle.block_store.proofs.stored.Stored.rows_are_sound.Goals as goal

pub loop-row-init : goal.loop-row-init
loop-row-init c = (omega arith, refl, omega arith, all-zero _)

pub row_is_sound-requires : goal.row_is_sound-requires
row_is_sound-requires c = record {
  row_lt_stored = (c.loop-row-test.true, c.requires);
  start_value = c.loop-row.invariant.1;
  start_in_bounds = c.loop-row.invariant.2;
}

pub returns-then-not-row_is_sound : goal.returns-then-not-row_is_sound
returns-then-not-row_is_sound c =
    let a = c.args in
    row-stops a.size (store_in a.self.now) c.loop-row.row c.loop-row-test.true (sym c.row_is_sound.ensures ∙ c.if-not-row_is_sound.true)

pub cell-requires : goal.cell-requires
cell-requires c =
    let below = c.loop-row-test.true in
    let rows = c.requires in
    (omega arith, omega (arith, below, rows))

pub overflow_add-start : goal.overflow_add-start
overflow_add-start c =
    let a = c.args in
    let p = passed_more a.size (store_in a.self.now) c.loop-row.start c.loop-row.row _ c.loop-row.invariant c.loop-row-test.true (sym c.row_is_sound.ensures ∙ c.if-not-row_is_sound.false) (c.index-start.ensures ∙ c.cell.ensures) in
    omega (arith, p.2)

pub loop-row-preserved : goal.loop-row-preserved
loop-row-preserved c =
    let a = c.args in
    passed_more a.size (store_in a.self.now) c.loop-row.start c.loop-row.row _ c.loop-row.invariant c.loop-row-test.true (sym c.row_is_sound.ensures ∙ c.if-not-row_is_sound.false) (c.index-start.ensures ∙ c.cell.ensures)

pub returns : goal.returns
returns c =
    let a = c.args in
    c.zero_from.ensures ∙ rows_end a.size (store_in a.self.now) c.loop-row.start c.loop-row.row c.loop-row.invariant c.loop-row-test.false
