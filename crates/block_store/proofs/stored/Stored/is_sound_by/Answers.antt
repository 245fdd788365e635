-- All but the references, where the rows are in order. Assumes nothing.
use Rattle.std.proofs.Common.{length, ◌∙◌}
use Rattle.block_store.proofs.Twins.{not-in-order, in_order}
use Rattle.block_store.specs.Stored.{store_in}
use Rattle.index.specs.Places.{has_room}
use Rattle.block_store.proofs.stored.Stored.is_sound_by.Goals as goal

pub returns-else-index_references-clause-value : goal.returns-else-index_references-clause-value
returns-else-index_references-clause-value c =
    let a = c.args in
    c.if-index_references.false ∙ not-in-order a.size (store_in a.self.now) (has_room a.self.now.stored (length a.order.now) (length a.work.now)) _ c.index_references.ensures.value c.if-index_references.false

pub returns-then-index_references-clause-value : goal.returns-then-index_references-clause-value
returns-then-index_references-clause-value c =
    let a = c.args in
    in_order a.size (store_in a.self.now) (has_room a.self.now.stored (length a.order.now) (length a.work.now)) _ c.index_references.ensures.value c.if-index_references.true _ c.is_sound_but_twins.ensures
