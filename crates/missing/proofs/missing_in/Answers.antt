-- The areas have room for the rows of both sides.
use Rattle.block_tables.proofs.Testing.{areas-fit}
use Rattle.block_tables.specs.Words.{tables_of}
use Rattle.missing.proofs.missing_in.Goals as goal

pub missing_by-requires-clause-tested : goal.missing_by-requires-clause-tested
missing_by-requires-clause-tested g c =
    let a = c.args in
    areas-fit a.size (tables_of a.store.now.blocks.now a.store.now.includes.now a.store.now.stored a.waits.now.waiting.now a.waits.now.named.now a.waits.now.pending) g.row.ROWS c.requires.room
