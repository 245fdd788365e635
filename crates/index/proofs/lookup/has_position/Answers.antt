-- Both words have to agree. Assumes nothing.
use mathlib.Core.Path.{◌∙◌}
use borrow.Author.Tests.{ne_eqb}
use Rattle.index.proofs.Turns.{other_round, same-round}
use Rattle.index.proofs.lookup.has_position.Goals as goal

pub returns-else-field-place : goal.returns-else-field-place
returns-else-field-place c =
    let a = c.args in
    let e = rw (c.of_statuses-keys.ensures.rows, c.of_statuses-keys.ensures.width) at c.field.ensures in
    ne_eqb _ _ c.if-field-place.false ∙ other_round a.rows.now a.row a.place _ e c.if-field-place.false

pub returns-then-field-place : goal.returns-then-field-place
returns-then-field-place c =
    let a = c.args in
    let e = rw (c.of_statuses-keys.ensures.rows, c.of_statuses-keys.ensures.width) at c.field.ensures in
    let f = rw (c.of_statuses-keys.ensures.rows, c.of_statuses-keys.ensures.width) at c.field-then-field-place.ensures in
    same-round a.rows.now a.row a.place _ e c.if-field-place.true _ f
